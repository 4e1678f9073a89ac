use Rattle.std.proofs.Common.{◌≡◌, take, map, count_by}
use Rattle.place_plan.specs.Plan.{plan_view}
use Rattle.place_ir_checks.specs.inner.NodeLookups.{found_use}
use Rattle.ssu_ir.specs.View.{labels_view}
use Rattle.place_ir_checks.specs.inner.Checks as checks
use Rattle.place_ir_checks.proofs.words.count_early.Given as goal

abbrev pub invariant-loop-serve : goal.invariant-loop-serve
invariant-loop-serve l = l.n ≡ count_by (checks.is_early_of (plan_view l.p) l.x) (map (found_use (labels_view l.s)) (take l.serve-index l.p.serves.items))
