-- what the program writes, and which texts it refuses
use Rattle.std.specs.Prelude.{◌≡◌, ◌<◌, ◌^◌, ◌⊎◌, ℕ, List, [], ◌∷◌, length}
use Rattle.nv_outside.specs.Calls.{Call, Load, Save}
use Rattle.zo_model.specs.declared.program.ZeroOne.{ZeroOne}
use Rattle.zo_model.specs.Contents.{contents}
use Rattle.zo_model.specs.ProgramText.{IsFirstFault, program_text}
use Rattle.zo_cert.specs.Contents.{report_contents}
use Rattle.zo_cert.specs.Report.{IsValidReport, IsTrueReport}
use Rattle.zo_cert.specs.ReportText.{report_text}
use Rattle.zo_cert.specs.declared.report.Report.{Report}
use Rattle.zo_bench_files.specs.declared.solved.Failure.{Failure}
use Rattle.zo_bench_files.specs.declared.solved.Failure.TheVariants.{Words, Read, Write, Memory, Text}

-- the text of a valid and true report on this program, for 0 slots and a budget of 2000 branches
pub record IsReportText (z : ZeroOne) (text : List ℕ) : Type 0 where
  pub report : Report
  pub valid : IsValidReport report
  pub holds : IsTrueReport report
  pub on_it : report.z ≡ z
  pub no_slots : report.slots ≡ 0
  pub budget : report.budget ≡ 2000
  pub spelled : text ≡ report_text (report_contents report)

-- the text of a true report on the program of the other text
pub record IsTrueText (program text : List ℕ) : Type 0 where
  pub z : ZeroOne
  pub read : program ≡ program_text (contents z)
  pub reported : IsReportText z text

-- the bytes are too many, or have a first faulty line; or memory ran out
abbrev pub IsTextRefusal : List ℕ → Failure → Type 0
IsTextRefusal bytes Memory = Unit {0}
IsTextRefusal bytes Text = (2 ^ 26 < length bytes) ⊎ ((n : ℕ) × IsFirstFault bytes n)
IsTextRefusal bytes Words = ⊥
IsTextRefusal bytes Read = ⊥
IsTextRefusal bytes Write = ⊥

-- the calls that come to a failure: the program is loaded, and the report is saved only where that is what fails
abbrev pub calls_to : Failure → List ℕ → List ℕ → List Call
calls_to Words program report = []
calls_to Read program report = Load program ∷ []
calls_to Text program report = Load program ∷ []
calls_to Memory program report = Load program ∷ []
calls_to Write program report = Load program ∷ Save report ∷ []
