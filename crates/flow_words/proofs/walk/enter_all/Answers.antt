use Rattle.flow_words.proofs.Going.{entered_more}
use Rattle.flow_words.proofs.walk.enter_all.Goals as goal

pub loop-x-preserved : goal.loop-x-preserved
loop-x-preserved c = entered_more c.args.xs.now c.loop-x.x-index _ _ c.loop-x-test.true c.loop-x.invariant c.in_ok-enter.ensures
