use Rattle.uc_contexts.proofs.Sharing.{NoneBefore, Other}
use Rattle.uc_contexts.proofs.compare.is_marked_by_other.Given as goal

abbrev pub invariant-loop-number : goal.invariant-loop-number
invariant-loop-number l = NoneBefore (Other l.writer l.m l.a) l.footprints l.number
