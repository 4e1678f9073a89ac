use Rattle.std.proofs.Common.{◌≡◌, true, take}
use Rattle.nv_types_table.proofs.Sums.{all_have}
use Rattle.nv_types_table.proofs.shapes.have_one_size.Given as goal

abbrev pub invariant-loop-m : goal.invariant-loop-m
invariant-loop-m l = all_have l.first.1.bits (take l.m-index l.others) ≡ true
