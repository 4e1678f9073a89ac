use Rattle.std.proofs.Common.{◌≡◌, true, not, take}
use Rattle.std.specs.List.{list_all}
use Rattle.nv_base.specs.Sets.{is_in}
use Rattle.ssu_ir.specs.Single.{names}
use Rattle.ssu_ir.specs.inner.Under.{tree_at}
use Rattle.ssu_ir.proofs.single_use.none_mentioned.Given as goal

abbrev pub invariant-loop-x : goal.invariant-loop-x
invariant-loop-x l = list_all (λ x. not (is_in x (names (tree_at l.s.nodes.slots l.k.0)))) (take l.x-index l.xs) ≡ true
