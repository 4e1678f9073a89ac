use Rattle.nova_middle.proofs.Spines.{wide_next}
use Rattle.nova_middle.proofs.places.wide.Goals as goal

pub loop-l-preserved : goal.loop-l-preserved
loop-l-preserved c = wide_next c.args.labels.now c.loop-l.l-index _ _ _ c.l-item.result c.l-item.result c.loop-l-test.true c.l-item.is c.loop-l.invariant c.in_ok-label_width.ensures c.max-most.ensures
