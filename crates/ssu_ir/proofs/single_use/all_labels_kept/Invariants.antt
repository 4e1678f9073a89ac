use Rattle.std.proofs.Common.{◌≡◌, true, map, take}
use Rattle.std.specs.List.{list_all}
use Rattle.ssu_ir.specs.View.{labels_view}
use Rattle.ssu_ir.specs.inner.Checks.{label_kept}
use Rattle.ssu_ir.specs.inner.Under.{label_of}
use Rattle.ssu_ir.proofs.single_use.all_labels_kept.Given as goal

abbrev pub invariant-loop-l : goal.invariant-loop-l
invariant-loop-l l = list_all (label_kept (labels_view l.s)) (map (label_of l.s.nodes.slots) (take l.l-index l.s.labels.items)) ≡ true
