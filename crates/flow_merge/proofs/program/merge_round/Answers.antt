use Rattle.std.proofs.Common.{le_trans}
use Rattle.flow_merge.proofs.Whole.{then_equal}
use Rattle.flow_merge.proofs.program.merge_round.Goals as goal
use Rattle.flow_ir.proofs.Results.{if_ok_both}

pub returns-clause-kept : goal.returns-clause-kept
returns-clause-kept c = if_ok_both c.drop_unreached.result _ _ _ (λ g params equal. then_equal _ _ _ c.in_ok-g.ensures.kept params equal) c.drop_unreached.ensures.params c.drop_unreached.ensures.equal

pub returns-clause-wide : goal.returns-clause-wide
returns-clause-wide c = if_ok_both c.drop_unreached.result _ _ _ (λ g le led. le_trans le c.in_ok-g.ensures.wide) c.drop_unreached.ensures.wide c.drop_unreached.ensures.led
