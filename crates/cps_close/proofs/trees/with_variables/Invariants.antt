use Rattle.std.proofs.Common.{◌≡◌, ◌++◌, take}
use Rattle.cps_close.specs.inner.Closed.{operands}
use Rattle.cps_close.proofs.trees.with_variables.Given as goal

abbrev pub invariant-loop-x : goal.invariant-loop-x
invariant-loop-x l = l.v.items ≡ l.initial.v.items ++ operands (take l.x-index l.needed)
