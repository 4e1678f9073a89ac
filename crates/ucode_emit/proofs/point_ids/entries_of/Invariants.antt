use Rattle.std.proofs.Common.{◌≡◌, take}
use Rattle.ucode_emit.specs.inner.EmittedPoints.{entries_of_points}
use Rattle.ucode_emit.proofs.point_ids.entries_of.Given as goal

abbrev pub invariant-loop-k : goal.invariant-loop-k
invariant-loop-k l = l.entries.items ≡ entries_of_points 0 (take l.k l.point_ids)
