use Rattle.std.proofs.Common.{arith}
use Rattle.cps_inline.proofs.Along.{label-within, span_next}
use Rattle.cps_inline.proofs.span.+spans.Goals as goal

pub after_labels-after_label-requires : goal.after_labels-after_label-requires
after_labels-after_label-requires t c =
    (omega (arith, c.decreases, label-within c.args.conts.now c.loop-c.c-index c.c-item.result c.loop-c-test.true c.c-item.is), tt)

pub after_labels-loop-c-preserved : goal.after_labels-loop-c-preserved
after_labels-loop-c-preserved t c =
    span_next c.args.conts.now c.loop-c.c-index c.c-item.result c.args.least c.loop-c.next c.in_ok-next.next c.loop-c-test.true c.c-item.is c.loop-c.invariant c.in_ok-next.ensures
