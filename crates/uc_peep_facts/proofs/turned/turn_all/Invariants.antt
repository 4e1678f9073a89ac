use Rattle.uc_peep_facts.specs.inner.Pairs.{AreTurnedTo}
use Rattle.uc_peep_facts.proofs.turned.turn_all.Given as goal

abbrev pub invariant-loop-x : goal.invariant-loop-x
invariant-loop-x l = AreTurnedTo l.code l.entered l.started l.draft l.gone l.some l.x
