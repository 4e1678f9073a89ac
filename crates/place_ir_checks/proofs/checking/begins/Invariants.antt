use Rattle.std.proofs.Common.{◌≡◌, take, drop}
use Rattle.place_ir_checks.specs.inner.Checks as checks
use Rattle.place_ir_checks.proofs.checking.begins.Given as goal

abbrev pub invariant-loop-i : goal.invariant-loop-i
invariant-loop-i l = checks.are_for l.k 0 (take l.many l.serves) ≡ checks.are_for l.k l.i (drop l.i (take l.many l.serves))
