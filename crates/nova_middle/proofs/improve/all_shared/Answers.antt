use Rattle.nova_middle.proofs.Improved.{equal_trans}
use Rattle.nova_middle.proofs.improve.all_shared.Goals as goal

pub rounds-preserved : goal.rounds-preserved
rounds-preserved c = equal_trans _ _ _ c.rounds.invariant (record { params = c.in_ok-g-2.ensures.params; equal = c.in_ok-g-2.ensures.equal })
