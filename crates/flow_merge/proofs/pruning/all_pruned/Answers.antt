use Rattle.std.proofs.Common.{arith}
use Rattle.flow_merge.proofs.ParamsWhole.{label_next}
use Rattle.flow_merge.proofs.pruning.all_pruned.Goals as goal

pub loop-l-preserved : goal.loop-l-preserved
loop-l-preserved c =
    let same = c.loop-l.invariant.0 in
    let more = c.in-Some.ensures in (
      omega (arith, same, more),
      label_next _ _ c.args.labels.now c.loop-l.l-index c.loop-l.i c.l-item.result c.l-item.result c.in_ok-label_pruned.field-0 c.loop-l.v.items _ c.loop-l-test.true c.loop-l.invariant.0 c.l-item.is c.loop-l.invariant.1 c.in_ok-label_pruned.ensures c.in_ok-push.ensures.items,
    )
