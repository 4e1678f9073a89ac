-- the first line of a text that isn't a report's
use Rattle.std.specs.Prelude.{◌≡◌, ◌≢◌, ℕ, ◌+◌, ◌<◌, ◌≤◌, ◌^◌, List, [], ◌∷◌, ◌++◌, length, map, Bool, All, codes, decimal}
use Rattle.nv_lines.specs.Line.{text_of, parted}
use Rattle.nv_lines.specs.Format.{Begins, FirstFault}
use Rattle.zo_model.specs.Contents.{Contents}
use Rattle.zo_model.specs.Program.{vector, costs_of}
use Rattle.zo_model.specs.ProgramText.{program_lines, IsValidContents}
use Rattle.zo_cert_tree.specs.Node.{Node, IsNodeText, node_line}
use Rattle.zo_cert.specs.Contents.{ReportContents}
use Rattle.zo_cert.specs.Report.{IsBlank}
use Rattle.zo_cert.specs.ReportText.{counted_line, x_line}
use Rattle.zo_cert.specs.declared.report.Verdict.{Verdict}
use Rattle.zo_cert.specs.declared.report.Verdict.TheVariants as verdicts

-- slots, a budget and a program that keep the limits
pub record AreInLimits (slots budget : ℕ) (p : Contents) : Type 0 where
  pub slots_fit : slots ≤ 128
  pub budget_low : 1 ≤ budget
  pub budget_high : budget ≤ 1000000
  pub program_valid : IsValidContents p

-- a report that keeps the limits
pub record IsReport (r : ReportContents) : Type 0 where
  pub in_limits : AreInLimits r.slots r.budget r.program
  pub one_a_column : length r.on ≡ length r.program.costs
  pub blank : IsBlank r.verdict r.on
  pub some_nodes : 1 ≤ length r.nodes
  pub few_nodes : length r.nodes < 2 ^ 32
  pub nodes_fit : All IsNodeText r.nodes

-- the lines before the verdict
abbrev pub front_lines : ℕ → ℕ → Contents → List (List ℕ)
front_lines slots budget p = codes "novareport 1" ∷ counted_line (codes "slots") slots ∷ counted_line (codes "budget") budget ∷ program_lines p

-- the verdict, where its cost is stated to be c
abbrev pub stated_lines : Verdict → ℕ → List Bool → List (List ℕ)
stated_lines verdicts.Optimal c xs = parted (codes "verdict" ∷ codes "optimal" ∷ decimal c ∷ []) ∷ x_line xs ∷ []
stated_lines verdicts.Feasible c xs = parted (codes "verdict" ∷ codes "feasible" ∷ decimal c ∷ []) ∷ x_line xs ∷ []
stated_lines verdicts.Infeasible c xs = codes "verdict infeasible" ∷ []
stated_lines verdicts.Spent c xs = codes "verdict spent" ∷ []

-- the lines of the tree
abbrev pub tree_lines : List Node → List (List ℕ)
tree_lines nodes = counted_line (codes "tree") (length nodes) ∷ map node_line nodes

-- the lines are those of a report, but that the verdict may state any cost below 2^64
pub record AreStatedLines (ls : List (List ℕ)) : Type 0 where
  pub report : ReportContents
  pub stated : ℕ
  pub valid : IsReport report
  pub within : stated < 2 ^ 64
  pub lines : ls ≡ front_lines report.slots report.budget report.program ++ stated_lines report.verdict stated report.on ++ tree_lines report.nodes

-- the verdicts with a cost
abbrev pub HasCost : Verdict → Type 0
HasCost verdicts.Optimal = Unit {0}
HasCost verdicts.Feasible = Unit {0}
HasCost verdicts.Infeasible = ⊥
HasCost verdicts.Spent = ⊥

-- line n is a verdict whose cost isn't that of the columns in the next line, whatever stands behind
pub record IsMisstated (bytes : List ℕ) (n : ℕ) : Type 0 where
  pub slots : ℕ
  pub budget : ℕ
  pub program : Contents
  pub verdict : Verdict
  pub stated : ℕ
  pub on : List Bool
  pub back : List ℕ
  pub in_limits : AreInLimits slots budget program
  pub has_cost : HasCost verdict
  pub within : stated < 2 ^ 64
  pub one_a_column : length on ≡ length program.costs
  pub not_its_cost : stated ≢ costs_of program.costs (vector on)
  pub spelled : bytes ≡ text_of (front_lines slots budget program ++ stated_lines verdict stated on) ++ back
  pub line : n ≡ length (front_lines slots budget program) + 1

-- Line n is the first that isn't of the format: the verdict's, where its cost isn't that of the columns in the line of
-- them; or, where no verdict has a wrong cost, the first faulty line of a format in which it may have any cost.
pub data IsFirstReportFault (bytes : List ℕ) (n : ℕ) : Type 0 where
  wrong_cost : IsMisstated bytes n → IsFirstReportFault bytes n
  wrong_line : ((m : ℕ) → ¬ IsMisstated bytes m) → FirstFault (Begins AreStatedLines) AreStatedLines bytes n → IsFirstReportFault bytes n
