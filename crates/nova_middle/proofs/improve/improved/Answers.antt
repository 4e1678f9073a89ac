use Rattle.nv_base.proofs.Same.{keeps-trans}
use Rattle.nova_middle.proofs.improve.improved.Goals as goal

pub rounds-preserved : goal.rounds-preserved
rounds-preserved c = (keeps-trans _ _ _ _ _ _ c.rounds.invariant.0 c.in_ok-g-2.ensures.kept, c.in_ok-g-2.ensures.reduced)
