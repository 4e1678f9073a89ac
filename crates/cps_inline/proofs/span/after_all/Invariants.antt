use Rattle.std.proofs.Common.{◌≡◌, max, drop}
use Rattle.cps_inline.specs.inner.Inlined.{behind}
use Rattle.cps_inline.proofs.span.after_all.Given as goal

abbrev pub invariant-loop-x : goal.invariant-loop-x
invariant-loop-x l = max l.next (behind (drop l.x-index l.xs)) ≡ max l.least (behind l.xs)
