use Rattle.flow_merge.proofs.Counting.{bulk_next}
use Rattle.flow_merge.proofs.sizes.sizes_of.Goals as goal

pub loop-l-preserved : goal.loop-l-preserved
loop-l-preserved c = bulk_next c.args.labels.now c.loop-l.l-index c.l-item.result c.l-item.result _ _ _ c.loop-l-test.true c.l-item.is c.loop-l.invariant c.in_ok-with_label.ensures c.in_ok-now.ensures
