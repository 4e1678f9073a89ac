use Rattle.uc_peep.specs.Liveness.{IsGrown}
use Rattle.uc_peep.proofs.jump_threading.follow.Given as goal

abbrev pub invariant-branches : goal.invariant-branches
invariant-branches l = IsGrown l.code l.initial.sets l.sets
