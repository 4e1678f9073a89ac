use Rattle.std.proofs.Common.{◌≡◌, take}
use Rattle.nv_types_table.proofs.Sums.{most_of}
use Rattle.nv_types_table.proofs.shapes.most_bits.Given as goal

abbrev pub invariant-loop-m : goal.invariant-loop-m
invariant-loop-m l = l.most ≡ most_of (λ m. m.bits) (take l.m-index l.members)
