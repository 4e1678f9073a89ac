use Rattle.flow_literals.proofs.Walks.{below_end}
use Rattle.flow_literals.proofs.names.above_all.Goals as goal

pub returns-clause-above : goal.returns-clause-above
returns-clause-above c = below_end c.args.xs.now c.loop-x.x-index _ c.loop-x-test.false c.loop-x.invariant.1
