use Rattle.zo_model.specs.Program.{columns}
use Rattle.zo_cert_tree.specs.inner.Leaf.{IsClear}
use Rattle.zo_solve_branch.proofs.leaf.closing.Given as goal

abbrev pub invariant-loop-denominator : goal.invariant-loop-denominator
invariant-loop-denominator l = IsClear (columns l.z) l.weights
