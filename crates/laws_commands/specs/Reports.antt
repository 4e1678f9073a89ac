-- What reports on the banks of one form say, and what `check` prints.
use Rattle.std.specs.Prelude.{◌≡◌, ◌≤◌, ◌++◌, ℕ, List, [], ◌∷◌, codes}
use Rattle.ssu_ir.specs.Tree.{Label}
use Rattle.uc_isa.specs.Code.{CodeView}
use Rattle.zo_cert.specs.declared.report.Report.{Report}
use Rattle.zo_cert.specs.declared.report.Verdict.TheVariants as verdict
use Rattle.zo_model.specs.Program.{Feasible, vector}
use Rattle.nova_back.specs.Causes.{IsCause, IsCodeBy, IsReportOn, report_cost}
use Rattle.nova_back.specs.declared.error.BackError.TheVariants as back
use Rattle.novac_words.specs.declared.refusal.Refusal.{Refusal}
use Rattle.novac_words.specs.declared.status.Status.{Status}
use Rattle.novac_commands.specs.Checking.{CheckRefuses, IsChecked, verdict_text}

-- the vector of one of these reports meets the rows, whatever its verdict
abbrev pub MeetsRows : Report → Type 0
MeetsRows r = Feasible r.z (vector r.x.on.items)

-- Two reports on the banks of one form, with the same slots and weights, searched within any budgets. Where one says optimal, no vector of the
-- other costs less, and where both do, they cost the same. Where one says infeasible, the other has no vector, and no code is made by it.
pub record ReportsAgree (labels : List Label) (slots : ℕ) (ws : List ℕ) : Type 0 where
  pub least : (budget budget' : ℕ) (r q : Report) → IsReportOn labels slots ws budget r → IsReportOn labels slots ws budget' q → r.verdict ≡ verdict.Optimal → MeetsRows q → report_cost r ≤ report_cost q
  pub one_cost : (budget budget' : ℕ) (r q : Report) → IsReportOn labels slots ws budget r → IsReportOn labels slots ws budget' q → r.verdict ≡ verdict.Optimal → q.verdict ≡ verdict.Optimal → report_cost r ≡ report_cost q
  pub none : (budget budget' : ℕ) (r q : Report) → IsReportOn labels slots ws budget r → IsReportOn labels slots ws budget' q → r.verdict ≡ verdict.Infeasible → MeetsRows q → ⊥
  pub no_code : (budget budget' store : ℕ) (r q : Report) (c : CodeView) (starts : List ℕ) → IsCause labels slots ws budget store (back.Infeasible r) → IsCodeBy labels slots ws budget' q c starts → ⊥

abbrev pub OneFormsReportsAgree : Type 0
OneFormsReportsAgree = (labels : List Label) (slots : ℕ) (ws : List ℕ) → ReportsAgree labels slots ws

-- the lines of the verdicts
pub record VerdictLines : Type 0 where
  pub optimal : verdict_text verdict.Optimal 12 ≡ codes "optimal 12" ++ 10 ∷ []
  pub feasible : verdict_text verdict.Feasible 12 ≡ codes "feasible 12" ++ 10 ∷ []
  pub infeasible : verdict_text verdict.Infeasible 0 ≡ codes "infeasible" ++ 10 ∷ []
  pub spent : verdict_text verdict.Spent 0 ≡ codes "spent" ++ 10 ∷ []

-- bytes are checked with one line, or refused for one cause, and never both
pub record OneCheck : Type 0 where
  pub line : (bytes : List ℕ) (s s' : Status) (t t' : List ℕ) → IsChecked bytes s t → IsChecked bytes s' t' → (s ≡ s') × (t ≡ t')
  pub cause : (bytes : List ℕ) (e f : Refusal) → CheckRefuses bytes e → CheckRefuses bytes f → e ≡ f
  pub never_both : (bytes : List ℕ) (s : Status) (t : List ℕ) (e : Refusal) → IsChecked bytes s t → CheckRefuses bytes e → ⊥
