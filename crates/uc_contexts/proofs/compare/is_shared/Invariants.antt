use Rattle.uc_contexts.proofs.Sharing.{NoneBefore, Writer}
use Rattle.uc_contexts.proofs.compare.is_shared.Given as goal

abbrev pub invariant-loop-number : goal.invariant-loop-number
invariant-loop-number l = NoneBefore (Writer l.footprints l.m l.a) l.footprints l.number
