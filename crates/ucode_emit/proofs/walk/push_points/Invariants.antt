use Rattle.std.proofs.Common.{drop}
use Rattle.ssu_ir.specs.View.{labels_view}
use Rattle.place_plan.specs.Plan.{plan_view}
use Rattle.ucode_emit.specs.inner.Marks.{marks}
use Rattle.ucode_emit.specs.inner.Walk.{IsAt, IsDrafted, moves_of}
use Rattle.ucode_emit.proofs.walk.push_points.Given as goal

abbrev pub invariant-loop-k : goal.invariant-loop-k
invariant-loop-k l = record {
  drafted : IsDrafted (labels_view l.s) (plan_view l.p) (moves_of l.points.sequences.items) l.k l.code l.places.items;
  emit_context : IsAt (plan_view l.p) l.k (drop l.k (marks (labels_view l.s))) l.cursor;
}
