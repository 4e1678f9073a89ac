use Rattle.std.proofs.Common.{◌≡◌, ℕ, nat_eq, ◌||◌, map, drop}
use Rattle.std.specs.HashMap.{get}
use Rattle.std.specs.HashSet.{contains}
use Rattle.nv_base.specs.Sets.{is_in}
use Rattle.ssu_liveness.specs.inner.Live.{value_by}
use Rattle.place_plan.specs.inner.Parts.{gather, used_at}
use Rattle.ssu_liveness.specs.inner.PointIds.{kind_of_point}
use Rattle.place_plan.proofs.used.used_values.Given as goal

abbrev pub invariant-loop-k : goal.invariant-loop-k
invariant-loop-k l =
    (z : ℕ) → (is_in z (gather (used_at (value_by (get nat_eq l.copies))) l.k (map (kind_of_point l.s) (drop l.k l.point_ids))) || contains nat_eq l.used z) ≡ is_in z (gather (used_at (value_by (get nat_eq l.copies))) 0 (map (kind_of_point l.s) l.point_ids))
