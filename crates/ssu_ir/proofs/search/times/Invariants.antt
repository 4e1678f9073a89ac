use Rattle.std.proofs.Common.{◌≡◌, min, take}
use Rattle.ssu_ir.specs.inner.Checks.{times_in}
use Rattle.ssu_ir.proofs.search.times.Given as goal

abbrev pub invariant-loop-y : goal.invariant-loop-y
invariant-loop-y l = l.n ≡ min 255 (times_in l.x (take l.y-index l.xs))
