use Rattle.std.proofs.Common.{◌≡◌, drop, map}
use Rattle.place_plan.specs.Plan.{plan_view}
use Rattle.ssu_ir.specs.Points.{points}
use Rattle.ssu_ir.specs.View.{labels_view}
use Rattle.place_ir_checks.specs.inner.Checks as checks
use Rattle.place_ir_checks.proofs.checking.firsts_fit.Given as goal

abbrev pub invariant-loop-k : goal.invariant-loop-k
invariant-loop-k l = checks.firsts_fit (map (λ f. f.point) (plan_view l.p).firsts) 0 (points (labels_view l.s)) ≡ checks.firsts_fit (map (λ f. f.point) l.rest) l.k (drop l.k (points (labels_view l.s)))
