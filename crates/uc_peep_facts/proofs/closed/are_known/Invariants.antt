use Rattle.uc_peep_facts.specs.Facts.{known}
use Rattle.uc_peep_facts.proofs.Ways.{AreTo}
use Rattle.uc_peep_facts.proofs.closed.are_known.Given as goal

abbrev pub invariant-loop-k : goal.invariant-loop-k
invariant-loop-k l = AreTo (known l.facts) (known l.others) l.k
