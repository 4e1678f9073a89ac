use Rattle.std.proofs.Common.{◌≡◌, false}
use Rattle.place_plan.specs.Plan.{plan_view}
use Rattle.place_ir_checks.specs.inner.Checks as checks
use Rattle.place_ir_checks.proofs.keeps.any_from_slot.Given as goal

abbrev pub invariant-loop-i : goal.invariant-loop-i
invariant-loop-i l = checks.any_from_slot (plan_view l.p) l.k l.i ≡ false
