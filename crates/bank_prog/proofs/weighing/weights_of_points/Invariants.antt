use Rattle.std.proofs.Common.{◌≡◌, ◌++◌, map, drop}
use Rattle.ssu_ir.specs.declared.ssu.Ssu.{Ssu}
use Rattle.ssu_liveness.specs.inner.PointIds.{kind_of_point}
use Rattle.place_weights.specs.Weighted.{weight_of}
use Rattle.bank_prog.specs.inner.Located.{labels_behind}
use Rattle.bank_prog.proofs.weighing.weights_of_points.Given as goal

abbrev pub invariant-loop-point_id : goal.invariant-loop-point_id
invariant-loop-point_id l = (s : Ssu) → l.weights.items ++ map (weight_of l.w) (labels_behind l.label (map (kind_of_point s) (drop l.point_id-index l.point_ids))) ≡ map (weight_of l.w) (labels_behind 0 (map (kind_of_point s) l.point_ids))
