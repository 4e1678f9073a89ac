use Rattle.flow_paths.proofs.Kept.{walked_next}
use Rattle.flow_paths.proofs.trees.all_walked.Goals as goal

pub loop-l-preserved : goal.loop-l-preserved
loop-l-preserved c = walked_next c.args.labels.now c.loop-l.l-index c.l-item.result c.l-item.result _ _ _ c.loop-l-test.true c.l-item.is c.loop-l.invariant c.in_ok-label_walked.ensures c.in_ok-push.ensures.items
