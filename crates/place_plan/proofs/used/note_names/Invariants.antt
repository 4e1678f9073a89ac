use Rattle.std.proofs.Common.{◌≡◌, ℕ, nat_eq, ◌||◌, map, drop}
use Rattle.std.specs.HashMap.{get}
use Rattle.std.specs.HashSet.{contains}
use Rattle.nv_base.specs.Sets.{is_in}
use Rattle.ssu_liveness.specs.inner.Live.{value_by}
use Rattle.place_plan.proofs.used.note_names.Given as goal

abbrev pub invariant-loop-x : goal.invariant-loop-x
invariant-loop-x l =
    (z : ℕ) → (is_in z (map (value_by (get nat_eq l.copies)) (drop l.x-index l.xs)) || contains nat_eq l.used z) ≡ (is_in z (map (value_by (get nat_eq l.copies)) l.xs) || contains nat_eq l.fn.used z)
