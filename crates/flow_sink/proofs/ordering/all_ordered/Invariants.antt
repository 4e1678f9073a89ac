use Rattle.std.proofs.Common.{◌≡◌, ◌++◌, map}
use Rattle.flow_ir.specs.View.{label_view}
use Rattle.flow_sink.specs.inner.Ordering.{labels_ordered}
use Rattle.flow_sink.proofs.ordering.all_ordered.Given as goal

abbrev pub invariant-loop-l : goal.invariant-loop-l
invariant-loop-l l = map label_view l.v.items ++ labels_ordered l.own (map label_view l.l-iterator.rest.items) ≡ labels_ordered 0 (map label_view l.fn.labels.items)
