use Rattle.std.proofs.Common.{◌≡◌, take}
use Rattle.cps_inline.specs.inner.Inlined.{operands}
use Rattle.cps_inline.proofs.program.operands.Given as goal

abbrev pub invariant-loop-x : goal.invariant-loop-x
invariant-loop-x l = l.v.items ≡ operands (take l.x-index l.xs)
