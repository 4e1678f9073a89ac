-- What the command for reports does, and why it refuses.
use Rattle.std.specs.Prelude.{◌≡◌, ℕ, List, [], ◌∷◌, ◌++◌, codes, ⊤}
use Rattle.zo_model.specs.Program.{vector, Feasible}
use Rattle.zo_cert.specs.Certificate.{Holds}
use Rattle.zo_cert.specs.Contents.{report_contents}
use Rattle.zo_cert.specs.Report.{IsValidReport, IsTrueReport}
use Rattle.zo_cert.specs.ReportFault.{IsReport, IsFirstReportFault}
use Rattle.zo_cert.specs.ReportText.{report_text}
use Rattle.zo_cert_tree.specs.declared.cert.Claim.TheVariants.{Least, Nothing}
use Rattle.zo_cert.specs.declared.report.Report.{Report}
use Rattle.zo_cert.specs.declared.report.Verdict.{Verdict}
use Rattle.zo_cert.specs.declared.report.Verdict.TheVariants as verdict
use Rattle.nova_back.specs.Causes.{report_cost}
use Rattle.novac_words.specs.Lines.{counted}
use Rattle.novac_words.specs.declared.refusal.Refusal.{Refusal}
use Rattle.novac_words.specs.declared.refusal.Refusal.TheVariants.{BadReport, FalseReport}
use Rattle.novac_words.specs.declared.status.Status.{Status}
use Rattle.novac_words.specs.declared.status.Status.TheVariants.{Done}

-- the bytes are the text of this report, which keeps the limits
pub record IsReportOf (bytes : List ℕ) (r : Report) : Type 0 where
  pub valid : IsValidReport r
  pub report : IsReport (report_contents r)
  pub spelled : bytes ≡ report_text (report_contents r)

-- what a true report shows of its program: that no vector that meets the rows costs less, or that none meets them
abbrev pub Shown : Verdict → Report → Type 0
Shown verdict.Optimal r = Feasible r.z (vector r.x.on.items) × Holds r.z (Least (report_cost r))
Shown verdict.Feasible r = ⊤
Shown verdict.Infeasible r = Holds r.z Nothing
Shown verdict.Spent r = ⊤

-- the line of a verdict, with this cost where it has one
abbrev pub verdict_text : Verdict → ℕ → List ℕ
verdict_text verdict.Optimal cost = counted (codes "optimal ") cost
verdict_text verdict.Feasible cost = counted (codes "feasible ") cost
verdict_text verdict.Infeasible cost = codes "infeasible" ++ 10 ∷ []
verdict_text verdict.Spent cost = codes "spent" ++ 10 ∷ []

-- the bytes are the text of a true report, whose verdict is told
pub record IsChecked (bytes : List ℕ) (status : Status) (text : List ℕ) : Type 0 where
  pub r : Report
  pub is_of : IsReportOf bytes r
  pub is_true : IsTrueReport r
  pub shown : Shown r.verdict r
  pub done : status ≡ Done
  pub line : text ≡ verdict_text r.verdict (report_cost r)

-- the bytes aren't the text of a report, or the report isn't true
abbrev pub CheckRefuses : List ℕ → Refusal → Type 0
CheckRefuses bytes (BadReport n) = IsFirstReportFault bytes n
CheckRefuses bytes FalseReport = (r : Report) × IsReportOf bytes r × ¬ IsTrueReport r
CheckRefuses bytes _ = ⊥
