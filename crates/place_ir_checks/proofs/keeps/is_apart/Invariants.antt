use Rattle.std.proofs.Common.{◌≡◌, true, take, map}
use Rattle.place_plan.specs.Plan.{home_view, plan_view}
use Rattle.ssu_ir.specs.View.{labels_view}
use Rattle.std.specs.List.{list_all}
use Rattle.place_ir_checks.specs.inner.Checks as checks
use Rattle.place_ir_checks.proofs.keeps.is_apart.Given as goal

abbrev pub invariant-loop-h : goal.invariant-loop-h
invariant-loop-h l = list_all (λ h. checks.may_meet (labels_view l.s) (plan_view l.p) l.k l.x h.var) (map home_view (take l.h-index l.p.homes.items)) ≡ true
