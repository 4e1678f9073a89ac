use Rattle.flow_sink.proofs.Kept.{shared_next}
use Rattle.flow_sink.proofs.trees.all_shared.Goals as goal

pub loop-l-preserved : goal.loop-l-preserved
loop-l-preserved c = shared_next c.args.labels.now c.loop-l.l-index c.l-item.result c.l-item.result _ _ _ c.loop-l-test.true c.l-item.is c.loop-l.invariant c.in_ok-label_shared.ensures c.in_ok-push.ensures.items
