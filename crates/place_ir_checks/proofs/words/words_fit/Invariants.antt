use Rattle.std.proofs.Common.{◌≡◌, drop, map}
use Rattle.place_plan.specs.Plan.{plan_view}
use Rattle.place_ir_checks.specs.inner.NodeLookups.{found_use}
use Rattle.ssu_ir.specs.View.{labels_view}
use Rattle.place_ir_checks.specs.inner.Checks as checks
use Rattle.place_ir_checks.proofs.words.words_fit.Given as goal

abbrev pub invariant-loop-serve : goal.invariant-loop-serve
invariant-loop-serve l = checks.words_fit (plan_view l.p) l.x l.qs (checks.found (labels_view l.s) (plan_view l.p)) ≡ checks.words_fit (plan_view l.p) l.x l.rest (map (found_use (labels_view l.s)) (drop l.serve-index l.p.serves.items))
