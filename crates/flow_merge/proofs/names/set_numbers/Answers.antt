use Rattle.flow_merge.proofs.Naming.{set_more}
use Rattle.flow_merge.proofs.names.set_numbers.Goals as goal

pub loop-x-preserved : goal.loop-x-preserved
loop-x-preserved c = set_more c.args.xs.now c.loop-x.x-index _ _ _ _ _ _ c.loop-x-test.true c.loop-x.invariant c.in_ok-set_next.ensures.first c.in_ok-set_next.ensures.next c.in_ok-set_next.ensures.names c.in_ok-set_next.ensures.saved c.in_ok-push.ensures.items
