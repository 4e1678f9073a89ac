use Rattle.std.proofs.Common.{◌∙◌}
use Rattle.flow_merge.proofs.Naming.{operands_more}
use Rattle.flow_merge.proofs.names.set_operands.Goals as goal

pub loop-i-preserved : goal.loop-i-preserved
loop-i-preserved c = (operands_more _ c.args.xs.now c.args.words.now c.loop-i.i _ _ _ c.loop-i-test.true c.loop-i.invariant.0 c.operand_at.ensures c.in_ok-set.ensures.names, c.in_ok-set.ensures.saved ∙ c.loop-i.invariant.1)
