use Rattle.std.proofs.Common.{◌≡◌, drop}
use Rattle.flow_literals.specs.inner.Hoisted as inner
use Rattle.flow_literals.proofs.hoisting.held.Given as goal

abbrev pub invariant-loop-i : goal.invariant-loop-i
invariant-loop-i l = inner.held (drop l.i l.row) (drop l.i l.names) l.v ≡ inner.held l.row l.names l.v
