use Rattle.flow_merge.proofs.Whole.{one_more}
use Rattle.flow_merge.proofs.program.merge_all.Goals as goal

pub rounds-preserved : goal.rounds-preserved
rounds-preserved c = one_more _ _ _ c.rounds.invariant c.in_ok-g-2.ensures.kept c.in_ok-g-2.ensures.led c.in_ok-g-2.ensures.wide
