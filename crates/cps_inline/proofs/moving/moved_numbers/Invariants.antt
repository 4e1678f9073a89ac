use Rattle.std.proofs.Common.{◌≡◌, take}
use Rattle.cps_inline.specs.inner.Inlined.{moved}
use Rattle.cps_inline.proofs.moving.moved_numbers.Given as goal

abbrev pub invariant-loop-x : goal.invariant-loop-x
invariant-loop-x l = l.v.items ≡ moved l.base (take l.x-index l.xs)
