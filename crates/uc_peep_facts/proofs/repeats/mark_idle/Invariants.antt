use Rattle.uc_peep_facts.proofs.Ways.{AllMayGo}
use Rattle.uc_peep_facts.proofs.repeats.mark_idle.Given as goal

abbrev pub invariant-loop-x : goal.invariant-loop-x
invariant-loop-x l = AllMayGo l.code l.sets l.table l.entered l.started l.gone
