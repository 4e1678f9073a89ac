use Rattle.std.proofs.Common.{◌≡◌, false, take}
use Rattle.place_plan.specs.Plan.{plan_view}
use Rattle.ssu_ir.specs.View.{labels_view}
use Rattle.std.specs.List.{list_any}
use Rattle.place_ir_checks.specs.inner.Checks as checks
use Rattle.place_ir_checks.proofs.keeps.any_to_slot.Given as goal

abbrev pub invariant-loop-x : goal.invariant-loop-x
invariant-loop-x l = list_any (checks.to_slot (labels_view l.s) (plan_view l.p) l.result_) (take l.x-index l.xs) ≡ false
