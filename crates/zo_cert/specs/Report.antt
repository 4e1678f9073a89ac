-- reports: which are valid, and which are true
use Rattle.std.specs.Prelude.{◌≡◌, ◌<◌, ◌≤◌, ◌^◌, List, length, Bool, false, All}
use Rattle.zo_model.specs.Program.{columns, cost_of, vector, Feasible, IsValid}
use Rattle.zo_cert_tree.specs.Certificate.{IsTreeWith, IsShaped, Proves}
use Rattle.zo_cert_tree.specs.declared.cert.Claim.TheVariants.{Least, Nothing}
use Rattle.zo_cert_tree.specs.Node.{IsNode}
use Rattle.zo_cert_tree.specs.Spent.{IsSpent}
use Rattle.zo_cert.specs.declared.report.Report.{Report}
use Rattle.zo_cert.specs.declared.report.Verdict.{Verdict}
use Rattle.zo_cert.specs.declared.report.Verdict.TheVariants as verdicts

-- ---- valid reports

-- a verdict without a cost comes with an x that is all false
abbrev pub IsBlank : Verdict → List Bool → Type 0
IsBlank verdicts.Optimal xs = Unit {0}
IsBlank verdicts.Feasible xs = Unit {0}
IsBlank verdicts.Infeasible xs = All (λ v. v ≡ false) xs
IsBlank verdicts.Spent xs = All (λ v. v ≡ false) xs

pub record IsValidReport (r : Report) : Type 0 where
  pub slots_fit : r.slots ≤ 128
  pub budget_low : 1 ≤ r.budget
  pub budget_high : r.budget ≤ 1000000
  pub program_valid : IsValid r.z
  pub one_a_column : length r.x.on.items ≡ columns r.z
  pub blank : IsBlank r.verdict r.x.on.items
  pub some_nodes : 1 ≤ length r.tree.nodes.items
  pub few_nodes : length r.tree.nodes.items < 2 ^ 32
  pub nodes_fit : All IsNode r.tree.nodes.items

-- ---- true reports

-- what the verdict says of the program, the vector, the tree and the budget
abbrev pub VerdictHolds : Verdict → Report → Type 0
VerdictHolds verdicts.Optimal r =
    Feasible r.z (vector r.x.on.items)
    × IsTreeWith (λ t. Proves r.z t (Least (cost_of r.z (vector r.x.on.items)))) r.tree
VerdictHolds verdicts.Feasible r = Feasible r.z (vector r.x.on.items) × IsSpent r.budget r.tree
VerdictHolds verdicts.Infeasible r = IsTreeWith (λ t. Proves r.z t Nothing) r.tree
VerdictHolds verdicts.Spent r = IsSpent r.budget r.tree

-- a report is true where its tree is shaped and its verdict holds
pub record IsTrueReport (r : Report) : Type 0 where
  pub tree_shaped : IsTreeWith (IsShaped r.z) r.tree
  pub verdict_holds : VerdictHolds r.verdict r
