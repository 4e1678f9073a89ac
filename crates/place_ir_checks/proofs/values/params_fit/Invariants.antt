use Rattle.std.proofs.Common.{◌≡◌, true, take}
use Rattle.place_plan.specs.Plan.{plan_view}
use Rattle.ssu_ir.specs.View.{labels_view}
use Rattle.std.specs.List.{list_all}
use Rattle.place_ir_checks.specs.inner.Checks as checks
use Rattle.place_ir_checks.proofs.values.params_fit.Given as goal

abbrev pub invariant-loop-x : goal.invariant-loop-x
invariant-loop-x l = list_all (checks.param_fits (checks.found (labels_view l.s) (plan_view l.p)) (plan_view l.p)) (take l.x-index l.xs) ≡ true
