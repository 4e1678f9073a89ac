use Rattle.uc_peep_facts.specs.inner.Pairs.{IsLevelTo}
use Rattle.uc_peep_facts.proofs.branches.put_idle.Given as goal

abbrev pub invariant-loop-x : goal.invariant-loop-x
invariant-loop-x l = IsLevelTo l.fn.list l.list l.gone l.x
