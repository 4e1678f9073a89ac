use Rattle.std.proofs.Common.{◌≡◌, map, take}
use Rattle.flow_ir.specs.View.{label_view}
use Rattle.flow_literals.specs.inner.Hoisted.{AreRows}
use Rattle.flow_literals.proofs.rows.rows.Given as goal

abbrev pub invariant-loop-l : goal.invariant-loop-l
invariant-loop-l l = (l.i ≡ l.l-index) × AreRows l.literals l.params 0 (map label_view (take l.l-index l.labels)) l.v.items
