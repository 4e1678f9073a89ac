use Rattle.std.proofs.Common.{◌≡◌, take}
use Rattle.cps_lower.proofs.lowering.atoms.Given as goal

abbrev pub invariant-loop-a : goal.invariant-loop-a
invariant-loop-a l = l.v.items ≡ take l.a-index l.xs
