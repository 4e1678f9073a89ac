use Rattle.std.proofs.Common.{◌≡◌, true, take, not}
use Rattle.place_plan.specs.Plan.{plan_view}
use Rattle.std.specs.List.{list_all}
use Rattle.place_ir_checks.specs.inner.Checks as checks
use Rattle.place_ir_checks.proofs.keeps.none_shared.Given as goal

abbrev pub invariant-loop-q : goal.invariant-loop-q
invariant-loop-q l = list_all (λ q. not (checks.is_shared (plan_view l.p) l.y q)) (take l.q-index l.qs) ≡ true
