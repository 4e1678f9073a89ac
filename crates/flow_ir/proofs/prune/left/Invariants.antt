use Rattle.std.specs.Prelude.{slice_index_or}
use Rattle.flow_ir.proofs.Leaving.{Leaves}
use Rattle.flow_ir.proofs.prune.left.Given as goal

abbrev pub invariant-loop-i : goal.invariant-loop-i
invariant-loop-i l = Leaves l.out (λ j. slice_index_or l.to j 0) l.labels l.i l.v.items
