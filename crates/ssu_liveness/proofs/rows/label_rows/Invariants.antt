use Rattle.std.proofs.Common.{◌≡◌, nat_eq, List, [], ◌∷◌}
use Rattle.std.specs.HashMap.{get}
use Rattle.std.specs.Prelude.{vec_len}
use Rattle.ssu_ir.specs.Slots.{Placed}
use Rattle.ssu_ir.specs.Work.{tops}
use Rattle.ssu_ir.proofs.Turns.{Completes}
use Rattle.ssu_liveness.specs.inner.Live.{label_tree, value_by, on_stack, root_rows, all_rows}
use Rattle.ssu_liveness.proofs.rows.label_rows.Given as goal

abbrev pub invariant-walk : goal.invariant-walk
invariant-walk l = record {
  made : List Placed;
  left : Completes l.s.nodes.slots (tops l.order.items) made (label_tree l.s l.k ∷ []);
  roots : on_stack l.roots.items ≡ root_rows (value_by (get nat_eq l.copies)) made;
  rows : on_stack l.rows.items ≡ all_rows (value_by (get nat_eq l.copies)) made;
}

abbrev pub decreases-walk : goal.decreases-walk
decreases-walk l = vec_len l.order
