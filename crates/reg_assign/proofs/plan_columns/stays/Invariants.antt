use Rattle.std.proofs.Common.{◌≡◌, map, drop}
use Rattle.reg_assign_reading.specs.inner.PlanTables.{stays_told}
use Rattle.reg_assign.proofs.plan_columns.stays.Given as goal
use Rattle.place_plan.specs.inner.UseViews.{use_view}

abbrev pub invariant-loop-u : goal.invariant-loop-u
invariant-loop-u l = stays_told l.t (map use_view (drop l.u-index l.us)) ≡ stays_told l.t (map use_view l.us)
