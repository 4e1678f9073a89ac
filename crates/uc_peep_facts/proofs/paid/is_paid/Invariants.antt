use Rattle.uc_peep_facts.proofs.Saved.{IsPaidTo}
use Rattle.uc_peep_facts.proofs.paid.is_paid.Given as goal

abbrev pub invariant-loop-x : goal.invariant-loop-x
invariant-loop-x l = IsPaidTo l.code l.draft l.started l.x l.credit
