use Rattle.std.proofs.Common.{◌≡◌, List, [], ◌∷◌, All}
use Rattle.std.specs.Prelude.{reverse, vec_len}
use Rattle.ssu_ir.specs.Slots.{Placed}
use Rattle.ssu_ir.specs.Work.{tops}
use Rattle.ssu_ir.proofs.Turns.{Completes}
use Rattle.ssu_liveness.specs.inner.Live.{label_tree}
use Rattle.ucode_emit.specs.inner.EmittedPoints.{IsEmittedPoint, on_stack}
use Rattle.ucode_emit.proofs.Spotted.{weights, all_marks}
use Rattle.ucode_emit.proofs.point_ids.label_point_ids.Given as goal

abbrev pub invariant-walk : goal.invariant-walk
invariant-walk l = record {
  made : List Placed;
  left : Completes l.s.nodes.slots (tops l.order.items) made (label_tree l.s l.l ∷ []);
  counts_ : reverse l.counts.items ≡ weights made;
  marks_ : on_stack l.s l.point_ids.items ≡ all_marks made;
  there : All (IsEmittedPoint l.s) l.point_ids.items;
}

abbrev pub decreases-walk : goal.decreases-walk
decreases-walk l = vec_len l.order
