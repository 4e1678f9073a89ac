use Rattle.std.proofs.Common.{◌≡◌, take}
use Rattle.cps_close.proofs.trees.operands.Given as goal

abbrev pub invariant-loop-a : goal.invariant-loop-a
invariant-loop-a l = l.v.items ≡ take l.a-index l.xs
