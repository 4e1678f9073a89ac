use Rattle.std.proofs.Common.{◌≡◌, drop}
use Rattle.nv_base.specs.Sets.{all_different}
use Rattle.ssu_ir.proofs.single_use.differ.Given as goal

abbrev pub invariant-loop-i : goal.invariant-loop-i
invariant-loop-i l = all_different l.xs ≡ all_different (drop l.i l.xs)
