use Rattle.flow_merge.proofs.Testing.{jumps_next}
use Rattle.flow_merge.proofs.checks.jumps.Goals as goal

pub loop-l-preserved : goal.loop-l-preserved
loop-l-preserved c = jumps_next c.args.labels.now c.loop-l.l-index c.l-item.result c.l-item.result _ _ c.loop-l-test.true c.l-item.is c.loop-l.invariant (record { as_long = c.note_all.ensures.length; most = c.note_all.ensures.most; least = c.note_all.ensures.least })
