use Rattle.uc_peep.proofs.Sweeps.{IsSwept}
use Rattle.uc_peep.proofs.liveness.sweep.Given as goal

abbrev pub invariant-loop-x : goal.invariant-loop-x
invariant-loop-x l = IsSwept l.code l.initial.sets l.sets l.rose l.x
