use Rattle.std.proofs.Common.{map}
use Rattle.flow_ir.specs.View.{label_view}
use Rattle.flow_sink.specs.inner.Ordering.{labels_ordered}
use Rattle.flow_sink.proofs.OrderWhole.{moved_label}
use Rattle.flow_sink.proofs.ordering.all_ordered.Goals as goal

pub loop-l-preserved : goal.loop-l-preserved
loop-l-preserved c =
    moved_label c.loop-l.own c.in_ok-own.own c.loop-l.v.items c.push.new.self.items c.loop-l.l-iterator.rest.items c.next.new.self.rest.items c.in-Some.l c.in_ok-label_ordered.field-0 (labels_ordered 0 (map label_view c.args.labels.items)) c.in_ok-own.ensures c.in-Some.ensures.steps.0 c.in_ok-push.ensures.items c.in_ok-label_ordered.ensures c.loop-l.invariant
