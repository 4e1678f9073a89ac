use Rattle.std.proofs.Common.{◌≡◌, drop}
use Rattle.place_ir_checks.specs.inner.Checks as checks
use Rattle.place_ir_checks.proofs.values.fills_fit.Given as goal

abbrev pub invariant-loop-q : goal.invariant-loop-q
invariant-loop-q l = checks.fills_fit l.slots l.defined 0 l.fills ≡ checks.fills_fit l.slots l.defined l.last (drop l.q-index l.fills)
