use Rattle.std.proofs.Common.{◌≡◌, drop, map, None}
use Rattle.place_plan.specs.Plan.{plan_view}
use Rattle.place_ir_checks.specs.inner.Checks as checks
use Rattle.place_ir_checks.proofs.checking.passes_rise.Given as goal

abbrev pub invariant-loop-q : goal.invariant-loop-q
invariant-loop-q l = checks.rise None (map (λ q. q.point) (plan_view l.p).passes) ≡ checks.rise l.last (map (λ q. q.point) (drop l.q-index l.p.passes.items))
