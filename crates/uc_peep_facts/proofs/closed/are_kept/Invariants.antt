use Rattle.uc_peep_facts.proofs.Ways.{KeptTo}
use Rattle.uc_peep_facts.proofs.closed.are_kept.Given as goal

abbrev pub invariant-loop-x : goal.invariant-loop-x
invariant-loop-x l = KeptTo l.code l.table l.x
