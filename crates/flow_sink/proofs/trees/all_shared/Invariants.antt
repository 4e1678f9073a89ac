use Rattle.std.proofs.Common.{◌≡◌, map, take}
use Rattle.flow_ir.specs.View.{label_view}
use Rattle.flow_sink.specs.inner.Above.{label_shared}
use Rattle.flow_sink.proofs.trees.all_shared.Given as goal

abbrev pub invariant-loop-l : goal.invariant-loop-l
invariant-loop-l l = map label_view l.v.items ≡ map label_shared (map label_view (take l.l-index l.labels))
