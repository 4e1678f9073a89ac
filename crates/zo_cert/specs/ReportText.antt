-- the text of a report
use Rattle.std.specs.Prelude.{ℕ, suc, List, [], ◌∷◌, ◌++◌, length, map, Bool, true, false, codes, decimal}
use Rattle.nv_lines.specs.Line.{text_of, parted}
use Rattle.zo_model.specs.Program.{vector, costs_of}
use Rattle.zo_model.specs.ProgramText.{program_lines}
use Rattle.zo_cert.specs.Contents.{ReportContents}
use Rattle.zo_cert_tree.specs.Node.{node_line}
use Rattle.zo_cert.specs.declared.report.Verdict.{Verdict}
use Rattle.zo_cert.specs.declared.report.Verdict.TheVariants as verdicts

-- a name and a number
abbrev pub counted_line : List ℕ → ℕ → List ℕ
counted_line name n = parted (name ∷ decimal n ∷ [])

-- the columns from i on that are 1
abbrev pub ones_from : ℕ → List Bool → List ℕ
ones_from i [] = []
ones_from i (true ∷ xs) = i ∷ ones_from (suc i) xs
ones_from i (false ∷ xs) = ones_from (suc i) xs

-- the columns that are 1
abbrev pub x_line : List Bool → List ℕ
x_line xs = parted (codes "x" ∷ map decimal (ones_from 0 xs))

-- the verdict; with a cost, that of the columns that are 1, and these columns
abbrev pub verdict_lines : Verdict → List ℕ → List Bool → List (List ℕ)
verdict_lines verdicts.Optimal costs xs = parted (codes "verdict" ∷ codes "optimal" ∷ decimal (costs_of costs (vector xs)) ∷ []) ∷ x_line xs ∷ []
verdict_lines verdicts.Feasible costs xs = parted (codes "verdict" ∷ codes "feasible" ∷ decimal (costs_of costs (vector xs)) ∷ []) ∷ x_line xs ∷ []
verdict_lines verdicts.Infeasible costs xs = codes "verdict infeasible" ∷ []
verdict_lines verdicts.Spent costs xs = codes "verdict spent" ∷ []

-- the lines of a report
abbrev pub report_lines : ReportContents → List (List ℕ)
report_lines r =
    codes "novareport 1" ∷ counted_line (codes "slots") r.slots ∷ counted_line (codes "budget") r.budget ∷ program_lines r.program
    ++ verdict_lines r.verdict r.program.costs r.on ++ counted_line (codes "tree") (length r.nodes) ∷ map node_line r.nodes

-- the text of these lines
unfoldable pub report_text : ReportContents → List ℕ
report_text r = text_of (report_lines r)
