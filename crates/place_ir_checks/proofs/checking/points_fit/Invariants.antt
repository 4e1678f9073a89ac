use Rattle.std.proofs.Common.{◌≡◌, true}
use Rattle.place_plan.specs.Plan.{plan_view}
use Rattle.ssu_ir.specs.View.{labels_view}
use Rattle.place_ir_checks.specs.inner.Checks as checks
use Rattle.place_ir_checks.proofs.checking.points_fit.Given as goal

abbrev pub invariant-loop-k : goal.invariant-loop-k
invariant-loop-k l = checks.all_below (checks.point_fits (labels_view l.s) (plan_view l.p)) l.k ≡ true
