use Rattle.flow_ir.proofs.Leaving.{Goes}
use Rattle.flow_ir.proofs.prune.all_go_on.Given as goal

abbrev pub invariant-loop-i : goal.invariant-loop-i
invariant-loop-i l = Goes l.out l.labels l.i
