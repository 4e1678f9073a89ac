use Rattle.uc_contexts.proofs.Marking.{Filled}
use Rattle.uc_contexts.proofs.bits.Bits.insert_each.Given as goal

abbrev pub invariant-loop-x : goal.invariant-loop-x
invariant-loop-x l = Filled l.fn.self l.first l.x l.self
