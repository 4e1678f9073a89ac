-- the answers of `read_report`: memory exhaustion is an answer to any bytes
use Rattle.std.specs.Prelude.{◌≡◌, ℕ, List, Result, Ok, Err}
use Rattle.zo_cert.specs.Contents.{ReportContents, report_contents}
use Rattle.zo_cert.specs.ReportFault.{IsFirstReportFault}
use Rattle.zo_cert.specs.declared.report.Report.{Report}
use Rattle.zo_model.specs.declared.error.ZoError.{ZoError}
use Rattle.zo_model.specs.declared.error.ZoError.TheVariants.{NoMemory, Bad}

-- the refusal is true of the bytes
abbrev pub IsTrueReportRefusal : List ℕ → ZoError → Type 0
IsTrueReportRefusal bytes NoMemory = Unit {0}
IsTrueReportRefusal bytes (Bad n) = IsFirstReportFault bytes n

-- a report of these contents, or memory exhaustion
abbrev pub AnswersReport : Result Report ZoError → ReportContents → Type 0
AnswersReport (Ok q) r = report_contents q ≡ r
AnswersReport (Err NoMemory) r = Unit {0}
AnswersReport (Err (Bad n)) r = ⊥

-- a fault of line n, or memory exhaustion
abbrev pub AnswersFault : Result Report ZoError → ℕ → Type 0
AnswersFault (Ok q) n = ⊥
AnswersFault (Err NoMemory) n = Unit {0}
AnswersFault (Err (Bad m)) n = m ≡ n
