use Rattle.uc_peep.proofs.Sweeps.{grown_more}
use Rattle.uc_peep.proofs.jump_threading.climb.Goals as goal

pub returns-then-not-rose : goal.returns-then-not-rose
returns-then-not-rose c = grown_more c.args.code.now c.args.sets.now c.places.sets c.update_noted.new.sets c.places.invariant c.in_ok-rose.ensures
