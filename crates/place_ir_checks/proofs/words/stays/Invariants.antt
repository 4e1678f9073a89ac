use Rattle.std.proofs.Common.{◌≡◌, false, take, map}
use Rattle.place_plan.specs.Plan.{plan_view}
use Rattle.place_ir_checks.specs.inner.NodeLookups.{found_use}
use Rattle.ssu_ir.specs.View.{labels_view}
use Rattle.std.specs.List.{list_any}
use Rattle.place_ir_checks.specs.inner.Checks as checks
use Rattle.place_ir_checks.proofs.words.stays.Given as goal

abbrev pub invariant-loop-serve : goal.invariant-loop-serve
invariant-loop-serve l = list_any (checks.is_kept (plan_view l.p) l.x) (map (found_use (labels_view l.s)) (take l.serve-index l.p.serves.items)) ≡ false
