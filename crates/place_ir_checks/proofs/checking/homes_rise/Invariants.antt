use Rattle.std.proofs.Common.{◌≡◌, drop, map, None}
use Rattle.place_plan.specs.Plan.{home_view, plan_view}
use Rattle.place_ir_checks.specs.inner.Checks as checks
use Rattle.place_ir_checks.proofs.checking.homes_rise.Given as goal

abbrev pub invariant-loop-h : goal.invariant-loop-h
invariant-loop-h l = checks.rise None (map (λ h. h.var) (plan_view l.p).homes) ≡ checks.rise l.last (map (λ h. h.var) (map home_view (drop l.h-index l.p.homes.items)))
