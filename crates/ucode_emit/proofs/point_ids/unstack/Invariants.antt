use Rattle.std.proofs.Common.{◌≡◌, ◌++◌}
use Rattle.std.specs.Prelude.{reverse, vec_len}
use Rattle.ucode_emit.proofs.point_ids.unstack.Given as goal

abbrev pub invariant-walk : goal.invariant-walk
invariant-walk l = l.point_ids.items ++ reverse l.left.items ≡ l.fn.point_ids.items ++ reverse l.fn.stack.items

abbrev pub decreases-walk : goal.decreases-walk
decreases-walk l = vec_len l.left
