-- the report of an answer
use Rattle.std.specs.Prelude.{◌≡◌, ℕ}
use Rattle.zo_model.specs.declared.program.Assignment.{Assignment}
use Rattle.zo_model.specs.declared.program.ZeroOne.{ZeroOne}
use Rattle.zo_cert.specs.declared.report.Report.{Report}
use Rattle.zo_cert.specs.declared.report.Verdict.{Verdict}
use Rattle.zo_cert.specs.declared.report.Verdict.TheVariants as verdicts
use Rattle.zo_solve.specs.Solved.{tree_of}
use Rattle.zo_solve.specs.declared.search.Solved.{Solved}
use Rattle.zo_solve.specs.declared.search.Solved.TheVariants as answers

-- the verdict of an answer
abbrev pub verdict_of : Solved → Verdict
verdict_of (answers.Optimal x c) = verdicts.Optimal
verdict_of (answers.Feasible x c) = verdicts.Feasible
verdict_of (answers.Infeasible c) = verdicts.Infeasible
verdict_of (answers.Spent c) = verdicts.Spent

-- the answer's vector, where it has one
abbrev pub HasVectorOf : Solved → Assignment → Type 0
HasVectorOf (answers.Optimal x c) y = y ≡ x
HasVectorOf (answers.Feasible x c) y = y ≡ x
HasVectorOf (answers.Infeasible c) y = Unit {0}
HasVectorOf (answers.Spent c) y = Unit {0}

-- the report says what the answer does of this program
pub record IsReportOf (z : ZeroOne) (s : Solved) (slots budget : ℕ) (r : Report) : Type 0 where
  pub slots_are : r.slots ≡ slots
  pub budget_is : r.budget ≡ budget
  pub program : r.z ≡ z
  pub verdict_is : r.verdict ≡ verdict_of s
  pub vector : HasVectorOf s r.x
  pub tree_is : r.tree ≡ tree_of s
