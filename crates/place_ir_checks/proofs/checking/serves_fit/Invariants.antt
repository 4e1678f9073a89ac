use Rattle.std.proofs.Common.{◌≡◌, drop}
use Rattle.ssu_ir.specs.Points.{points}
use Rattle.ssu_ir.specs.View.{labels_view}
use Rattle.place_ir_checks.specs.inner.Checks as checks
use Rattle.place_ir_checks.proofs.checking.serves_fit.Given as goal

abbrev pub invariant-loop-k : goal.invariant-loop-k
invariant-loop-k l = checks.serves_fit l.p.serves.items 0 (points (labels_view l.s)) ≡ checks.serves_fit l.rest l.k (drop l.k (points (labels_view l.s)))
