use Rattle.std.proofs.Common.{◌≡◌, take}
use Rattle.nv_flatten_values.proofs.parts.short.Given as goal

abbrev pub invariant-loop-a : goal.invariant-loop-a
invariant-loop-a l = l.list.items ≡ take l.a-index l.operands
