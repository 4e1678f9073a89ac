use Rattle.std.proofs.Common.{◌≡◌, ◌++◌, map}
use Rattle.flow_ir.specs.View.{label_view}
use Rattle.flow_sink.specs.inner.Sinking.{label_sunk}
use Rattle.flow_sink.proofs.sinking.all_sunk.Given as goal

abbrev pub invariant-loop-l : goal.invariant-loop-l
invariant-loop-l l = map label_view l.v.items ++ map label_sunk (map label_view l.l-iterator.rest.items) ≡ map label_sunk (map label_view l.fn.labels.items)
