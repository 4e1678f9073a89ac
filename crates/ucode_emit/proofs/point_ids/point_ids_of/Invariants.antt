use Rattle.std.proofs.Common.{◌≡◌, ◌++◌, map, drop, All}
use Rattle.ssu_ir.specs.View.{labels_view}
use Rattle.ucode_emit.specs.inner.Marks.{marks, marks_from}
use Rattle.ucode_emit.specs.inner.EmittedPoints.{point_mark, IsEmittedPoint}
use Rattle.ucode_emit.proofs.point_ids.point_ids_of.Given as goal

abbrev pub invariant-loop-l : goal.invariant-loop-l
invariant-loop-l l = record {
  marks_ : map (point_mark l.s) l.point_ids.items ++ marks_from l.l (drop l.l (labels_view l.s)) ≡ marks (labels_view l.s);
  there : All (IsEmittedPoint l.s) l.point_ids.items;
}
