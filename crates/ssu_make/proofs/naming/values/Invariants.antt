use Rattle.std.proofs.Common.{◌≡◌, map, take}
use Rattle.ssu_make.specs.inner.Making.{counted}
use Rattle.ssu_make.specs.Made.{value}
use Rattle.ssu_make.proofs.naming.values.Given as goal

abbrev pub invariant-loop-x : goal.invariant-loop-x
invariant-loop-x l = l.v.items ≡ map (value (counted l.bases) (counted l.counts)) (take l.x-index l.xs)
