use Rattle.std.proofs.Common.{◌≡◌, drop}
use Rattle.place_plan.specs.Plan.{plan_view}
use Rattle.ssu_ir.specs.View.{labels_view}
use Rattle.place_ir_checks.specs.inner.Checks as checks
use Rattle.place_ir_checks.proofs.values.fetched_fit.Given as goal

abbrev pub invariant-loop-i : goal.invariant-loop-i
invariant-loop-i l = checks.fetched_fit (checks.found (labels_view l.s) (plan_view l.p)) (plan_view l.p) l.m l.first 0 l.xs ≡ checks.fetched_fit (checks.found (labels_view l.s) (plan_view l.p)) (plan_view l.p) l.m l.first l.i (drop l.i l.xs)
