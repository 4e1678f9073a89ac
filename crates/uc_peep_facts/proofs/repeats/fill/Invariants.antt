use Rattle.uc_peep_facts.proofs.Noted.{IsFilledTo}
use Rattle.uc_peep_facts.proofs.repeats.fill.Given as goal

abbrev pub invariant-loop-x : goal.invariant-loop-x
invariant-loop-x l = IsFilledTo l.fn.draft l.draft l.gone l.x
