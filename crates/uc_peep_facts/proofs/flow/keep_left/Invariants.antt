use Rattle.uc_peep_facts.specs.Facts.{Gives, known}
use Rattle.uc_peep_facts.proofs.flow.keep_left.Given as goal

abbrev pub invariant-loop-k : goal.invariant-loop-k
invariant-loop-k l = Gives l.i (known l.before) (known l.after)
