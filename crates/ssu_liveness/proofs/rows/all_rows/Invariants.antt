use Rattle.std.proofs.Common.{◌≡◌, ◌++◌, nat_eq, drop}
use Rattle.std.specs.HashMap.{get}
use Rattle.ssu_ir.specs.View.{labels_view}
use Rattle.ssu_liveness.specs.LiveRows.{items_of}
use Rattle.ssu_liveness.specs.inner.Live.{labels_rows, value_by}
use Rattle.ssu_liveness.proofs.rows.all_rows.Given as goal

abbrev pub invariant-loop-k : goal.invariant-loop-k
invariant-loop-k l =
    items_of l.rows.items ++ labels_rows (value_by (get nat_eq l.copies)) (drop l.k (labels_view l.s)) ≡ labels_rows (value_by (get nat_eq l.copies)) (labels_view l.s)
