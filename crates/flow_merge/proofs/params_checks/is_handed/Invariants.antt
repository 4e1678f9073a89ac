use Rattle.flow_merge.proofs.Asking.{NotHanded}
use Rattle.flow_merge.proofs.params_checks.is_handed.Given as goal

abbrev pub invariant-loop-j : goal.invariant-loop-j
invariant-loop-j l = NotHanded l.ranks l.rank l.x l.k l.words l.j
