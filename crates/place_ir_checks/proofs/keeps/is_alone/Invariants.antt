use Rattle.std.proofs.Common.{◌≡◌, true, take, map}
use Rattle.place_plan.specs.Plan.{plan_view}
use Rattle.place_plan.specs.inner.UseViews.{use_view}
use Rattle.place_ir_checks.specs.inner.NodeLookups.{found_use}
use Rattle.ssu_ir.specs.View.{labels_view}
use Rattle.std.specs.List.{list_all}
use Rattle.place_ir_checks.specs.inner.Checks as checks
use Rattle.place_ir_checks.proofs.keeps.is_alone.Given as goal

abbrev pub invariant-loop-serve : goal.invariant-loop-serve
invariant-loop-serve l = list_all (checks.is_other (labels_view l.s) (plan_view l.p) l.k (use_view l.u)) (map (found_use (labels_view l.s)) (take l.serve-index l.p.serves.items)) ≡ true
