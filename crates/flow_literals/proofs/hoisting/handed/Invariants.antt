use Rattle.std.proofs.Common.{◌≡◌, map, take}
use Rattle.flow_literals.specs.inner.Hoisted as inner
use Rattle.flow_literals.proofs.hoisting.handed.Given as goal

abbrev pub invariant-loop-w : goal.invariant-loop-w
invariant-loop-w l = l.v.items ≡ map (inner.held l.row l.names) (take l.w-index l.heads)
