use Rattle.uc_asm.proofs.MeaningLemmas.{ResolvedBelow}
use Rattle.uc_asm.proofs.resolve.instructions.Given as goal

abbrev pub invariant-loop-index : goal.invariant-loop-index
invariant-loop-index l = ResolvedBelow l.items l.index l.list.items
