use Rattle.uc_peep.specs.Liveness.{IsGrown}
use Rattle.uc_peep.proofs.jump_threading.climb.Given as goal

abbrev pub invariant-places : goal.invariant-places
invariant-places l = IsGrown l.code l.initial.sets l.sets
