use Rattle.std.proofs.Common.{◌≡◌, map, take}
use Rattle.flow_ir.specs.View.{label_view}
use Rattle.flow_literals.specs.inner.Hoisted.{heads_of, AreHoisted}
use Rattle.flow_literals.proofs.hoisting.all_hoisted.Given as goal

abbrev pub invariant-loop-l : goal.invariant-loop-l
invariant-loop-l l = (l.i ≡ l.l-index) × AreHoisted (heads_of l.table) 0 (map label_view (take l.l-index l.labels)) (map label_view l.v.items)
