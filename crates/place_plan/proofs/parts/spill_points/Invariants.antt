use Rattle.std.proofs.Common.{map, drop}
use Rattle.ssu_ir.specs.View.{labels_view}
use Rattle.place_plan.specs.inner.Parts.{Gathers}
use Rattle.ssu_liveness.specs.inner.PointIds.{kind_of_point}
use Rattle.place_plan.proofs.parts.spill_points.Given as goal

abbrev pub invariant-loop-k : goal.invariant-loop-k
invariant-loop-k l = Gathers (labels_view l.s) l.given l.k (map (kind_of_point l.s) (drop l.k l.point_ids)) (map (kind_of_point l.s) l.point_ids) l.parts
