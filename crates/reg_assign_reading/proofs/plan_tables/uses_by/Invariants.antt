use Rattle.std.proofs.Common.{◌≡◌, ◌≤◌, ℕ, length, map, drop}
use Rattle.std.specs.HashMap.{get}
use Rattle.reg_assign_reading.specs.inner.Chosen.{use_in}
use Rattle.reg_assign_reading.specs.inner.PlanTables.{pair_eq, known_value, known_role}
use Rattle.reg_assign_reading.proofs.plan_tables.uses_by.Given as goal
use Rattle.place_plan.specs.inner.UseViews.{use_view}

abbrev pub invariant-loop-n : goal.invariant-loop-n
invariant-loop-n l = record {
  within : l.n ≤ length l.uses;
  values : (k i : ℕ) → known_value (get pair_eq l.table (k, i)) ≡ (use_in (map use_view (drop l.n l.uses)) k i).value;
  roles : (k i : ℕ) → known_role (get pair_eq l.table (k, i)) ≡ (use_in (map use_view (drop l.n l.uses)) k i).role;
}

abbrev pub decreases-loop-n : goal.decreases-loop-n
decreases-loop-n l = l.n
