use Rattle.std.proofs.Common.{drop}
use Rattle.ssu_ir.specs.View.{labels_view}
use Rattle.place_plan.specs.Plan.{plan_view}
use Rattle.ucode_emit.specs.inner.Marks.{marks}
use Rattle.ucode_emit.specs.inner.Cursors.{AreServed}
use Rattle.ucode_emit.specs.inner.Walk.{moves_of}
use Rattle.ucode_emit.proofs.Sequenced.{SoFar}
use Rattle.ucode_emit.proofs.sequences.sequences_of.Given as goal

abbrev pub invariant-loop-k : goal.invariant-loop-k
invariant-loop-k l = record {
  so_far : SoFar (labels_view l.s) (plan_view l.p) l.k (moves_of l.sequences.items);
  served : AreServed (plan_view l.p).serves l.at l.k (drop l.k (marks (labels_view l.s)));
}
