use Rattle.std.proofs.Common.{◌≡◌, true, take}
use Rattle.std.specs.List.{list_all}
use Rattle.ssu_ir.specs.inner.Checks.{copy_used}
use Rattle.ssu_ir.specs.inner.Under.{tree_at}
use Rattle.ssu_ir.proofs.single_use.all_used.Given as goal

abbrev pub invariant-loop-x : goal.invariant-loop-x
invariant-loop-x l = list_all (λ x. copy_used x (tree_at l.s.nodes.slots l.k.0)) (take l.x-index l.xs) ≡ true
