-- Reports on the banks of one form.
use Rattle.std.proofs.Common.{◌≡◌, ◌≤◌, ◌∙◌, refl, ap, sym, subst, ℕ, Bool, List, arith}
use Rattle.std.specs.Fmt.{digits}
use Rattle.ssu_ir.specs.Tree.{Label}
use Rattle.bank_prog.proofs.LawsRows.{feasible-by-name}
use Rattle.zo_cert.specs.declared.report.Report.{Report}
use Rattle.zo_cert.specs.declared.report.Verdict.{Verdict}
use Rattle.zo_cert.specs.declared.report.Verdict.TheVariants as verdict
use Rattle.zo_cert.specs.Report.{VerdictHolds}
use Rattle.zo_model.specs.Contents.{Contents}
use Rattle.zo_model.specs.Program.{cost_of, costs_of, Feasible, IsValid, vector}
use Rattle.zo_model.specs.declared.program.ZeroOne.{ZeroOne}
use Rattle.zo_cert_tree.specs.Certificate.{Holds, IsTreeWith, Proves}
use Rattle.zo_cert_tree.specs.declared.cert.Cert.{Cert}
use Rattle.zo_cert_tree.specs.declared.cert.Claim.{Claim}
use Rattle.zo_cert_tree.specs.declared.cert.Claim.TheVariants.{Least, Nothing}
use Rattle.zo_cert_tree.proofs.Duality.{proves_holds}
use Rattle.nova_back.specs.Causes.{HasVector, IsReportOn, report_cost}
use Rattle.novac_commands.proofs.OneReport.{check-good, check-one, checked-one}
use Rattle.laws_commands.specs.Reports.{MeetsRows, OneCheck, OneFormsReportsAgree, VerdictLines}

pub verdict_lines : VerdictLines
unfolding digits
verdict_lines = record { optimal = refl; feasible = refl; infeasible = refl; spent = refl }

pub one_check : OneCheck
one_check = record { line = checked-one; cause = check-one; never_both = check-good }

-- what a tree of a valid program proves holds
tree_holds : (z : ZeroOne) (claim : Claim) (tree : Cert) → IsValid z → IsTreeWith (λ t. Proves z t claim) tree → Holds z claim
tree_holds z claim tree valid (t, spelled, proved) = proves_holds z t claim valid proved

-- reports on one form's banks have one program
module _ (labels : List Label) (slots : ℕ) (ws : List ℕ) (budget budget' : ℕ) (r q : Report) (h : IsReportOn labels slots ws budget r) (k : IsReportOn labels slots ws budget' q) where
  meets_too : (x : ℕ → Bool) → Feasible q.z x → Feasible r.z x
  meets_too x m = (feasible-by-name r.z labels slots ws x h.program).1 ((feasible-by-name q.z labels slots ws x k.program).0 m)

  costs_same : (x : ℕ → Bool) → cost_of r.z x ≡ cost_of q.z x
  costs_same x = ap (λ (c : Contents). costs_of c.costs x) (h.program ∙ sym k.program)

  least : r.verdict ≡ verdict.Optimal → MeetsRows q → report_cost r ≤ report_cost q
  least optimal m =
      let holds : VerdictHolds verdict.Optimal r = subst (λ v. VerdictHolds v r) optimal h.holds.verdict_holds in
      let at : report_cost r ≤ cost_of r.z (vector q.x.on.items) = tree_holds r.z (Least (report_cost r)) r.tree h.valid.program_valid holds.1 (vector q.x.on.items) (meets_too (vector q.x.on.items) m) in
      subst (λ n. report_cost r ≤ n) (costs_same (vector q.x.on.items)) at

  none : r.verdict ≡ verdict.Infeasible → MeetsRows q → ⊥
  none infeasible m =
      let holds : VerdictHolds verdict.Infeasible r = subst (λ v. VerdictHolds v r) infeasible h.holds.verdict_holds in
      tree_holds r.z Nothing r.tree h.valid.program_valid holds (vector q.x.on.items) (meets_too (vector q.x.on.items) m)

-- a verdict with a vector has one that meets the rows
meets_by : (v : Verdict) (r : Report) → HasVector v → VerdictHolds v r → MeetsRows r
meets_by verdict.Optimal r found holds = holds.0
meets_by verdict.Feasible r found holds = holds.0
meets_by verdict.Infeasible r found holds = absurd found
meets_by verdict.Spent r found holds = absurd found

optimal_meets : (r : Report) → r.verdict ≡ verdict.Optimal → VerdictHolds r.verdict r → MeetsRows r
optimal_meets r optimal holds = meets_by verdict.Optimal r tt (subst (λ v. VerdictHolds v r) optimal holds)

pub reports_agree : OneFormsReportsAgree
reports_agree labels slots ws = record {
  least = least labels slots ws;
  one_cost = λ budget budget' r q h k optimal also.
      let up : report_cost r ≤ report_cost q = least labels slots ws budget budget' r q h k optimal (optimal_meets q also k.holds.verdict_holds) in
      let down : report_cost q ≤ report_cost r = least labels slots ws budget' budget q r k h also (optimal_meets r optimal h.holds.verdict_holds) in
      omega (arith, up, down);
  none = none labels slots ws;
  no_code = λ budget budget' store r q c starts why code.
      none labels slots ws budget budget' r q why.report code.report why.says (meets_by q.verdict q code.found code.report.holds.verdict_holds);
}
