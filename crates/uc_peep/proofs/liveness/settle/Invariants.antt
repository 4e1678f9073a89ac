use Rattle.std.proofs.Common.{◌≡◌, ◌+◌, false, if◌then◌else◌}
use Rattle.uc_peep.specs.Liveness.{IsSound, IsClosed, AreSmall}
use Rattle.uc_peep.proofs.Sweeps.{left}
use Rattle.uc_peep.proofs.liveness.settle.Given as goal

abbrev pub invariant-loop-rose : goal.invariant-loop-rose
invariant-loop-rose l = record {
  sound : IsSound l.code l.sets;
  small : AreSmall l.sets;
  closed : l.rose ≡ false → IsClosed l.code l.sets;
}

abbrev pub decreases-loop-rose : goal.decreases-loop-rose
decreases-loop-rose l = left l.sets + (if l.rose then 1 else 0)
