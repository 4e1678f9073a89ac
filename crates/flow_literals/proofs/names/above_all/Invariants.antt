use Rattle.std.proofs.Common.{◌≤◌, take}
use Rattle.flow_literals.specs.inner.Hoisted.{AreBelow}
use Rattle.flow_literals.proofs.names.above_all.Given as goal

abbrev pub invariant-loop-x : goal.invariant-loop-x
invariant-loop-x l = (l.n ≤ l.most) × AreBelow l.most (take l.x-index l.xs)
