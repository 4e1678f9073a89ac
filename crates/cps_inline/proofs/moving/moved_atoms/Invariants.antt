use Rattle.std.proofs.Common.{◌≡◌, take}
use Rattle.cps_inline.specs.inner.Inlined.{moved_atoms}
use Rattle.cps_inline.proofs.moving.moved_atoms.Given as goal

abbrev pub invariant-loop-a : goal.invariant-loop-a
invariant-loop-a l = l.v.items ≡ moved_atoms l.base (take l.a-index l.xs)
