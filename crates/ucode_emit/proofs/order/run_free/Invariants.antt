use Rattle.ucode_emit.proofs.Loops.{Freeing}
use Rattle.ucode_emit.proofs.order.run_free.Given as goal

abbrev pub invariant-loop-m : goal.invariant-loop-m
invariant-loop-m l = Freeing l.moves l.m-index l.pending
