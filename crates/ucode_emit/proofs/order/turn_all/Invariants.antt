use Rattle.ucode_emit.proofs.Loops.{Turning}
use Rattle.ucode_emit.proofs.order.turn_all.Given as goal

abbrev pub invariant-loop-m : goal.invariant-loop-m
invariant-loop-m l = Turning l.moves l.m-index l.pending
