use Rattle.ucode_emit.proofs.Loops.{Adding}
use Rattle.ucode_emit.proofs.pending.Pending.new.Given as goal

abbrev pub invariant-loop-m : goal.invariant-loop-m
invariant-loop-m l = Adding l.moves l.m-index l.pending
