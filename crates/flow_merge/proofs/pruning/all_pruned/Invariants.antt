use Rattle.std.proofs.Common.{◌≡◌, map, take}
use Rattle.flow_ir.specs.View.{label_view}
use Rattle.flow_merge.specs.inner.Pruned.{gone_of, ArePruned}
use Rattle.flow_merge.proofs.pruning.all_pruned.Given as goal

abbrev pub invariant-loop-l : goal.invariant-loop-l
invariant-loop-l l = (l.i ≡ l.l-index) × ArePruned (map label_view l.labels) (gone_of l.table) 0 (map label_view (take l.l-index l.labels)) (map label_view l.v.items)
