use Rattle.flow_ir.proofs.Leaving.{Ranks}
use Rattle.flow_ir.proofs.prune.numbers.Given as goal

abbrev pub invariant-loop-i : goal.invariant-loop-i
invariant-loop-i l = Ranks l.out l.i l.next l.to.items
