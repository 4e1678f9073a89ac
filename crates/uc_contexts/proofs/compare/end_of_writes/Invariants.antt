use Rattle.uc_contexts.proofs.Sharing.{EndsBefore}
use Rattle.uc_contexts.proofs.compare.end_of_writes.Given as goal

abbrev pub invariant-loop-f : goal.invariant-loop-f
invariant-loop-f l = EndsBefore l.footprints l.m l.f-index l.end
