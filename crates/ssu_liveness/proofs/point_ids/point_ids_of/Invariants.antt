use Rattle.std.proofs.Common.{◌≡◌, ◌++◌, map, drop}
use Rattle.ssu_ir.specs.Points.{points}
use Rattle.ssu_ir.specs.View.{labels_view}
use Rattle.ssu_liveness.specs.inner.PointIds.{kind_of_point}
use Rattle.ssu_liveness.proofs.SpotSteps.{places_from}
use Rattle.ssu_liveness.proofs.point_ids.point_ids_of.Given as goal

abbrev pub invariant-loop-k : goal.invariant-loop-k
invariant-loop-k l = map (kind_of_point l.s) l.point_ids.items ++ places_from l.k (drop l.k (labels_view l.s)) ≡ map (λ p. p.place) (points (labels_view l.s))
