use Rattle.std.proofs.Common.{◌≡◌, false}
use Rattle.place_plan.specs.Plan.{plan_view}
use Rattle.ssu_ir.specs.View.{labels_view}
use Rattle.place_ir_checks.specs.inner.Checks as checks
use Rattle.place_ir_checks.proofs.checking.is_wanted.Given as goal

abbrev pub invariant-loop-k : goal.invariant-loop-k
invariant-loop-k l = checks.any_below (checks.wants_at (labels_view l.s) (plan_view l.p) l.x) l.k ≡ false
