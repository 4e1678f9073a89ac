use Rattle.std.proofs.Common.{◌≡◌, ◌+◌, ◌*◌, false, take}
use Rattle.std.specs.List.{list_any}
use Rattle.ssu_ir.specs.inner.Checks.{copy_used}
use Rattle.ssu_ir.specs.inner.Under.{tree_at, weight_at}
use Rattle.ssu_ir.proofs.search.+copies.Given as goal

abbrev pub decreases-copy_used : goal.decreases-copy_used
decreases-copy_used l = 2 * weight_at l.s.now.nodes.slots l.id.0

abbrev pub decreases-any_used : goal.decreases-any_used
decreases-any_used l = 2 * weight_at l.s.now.nodes.slots l.id.0 + 1

abbrev pub invariant-any_used-loop-x : goal.invariant-any_used-loop-x
invariant-any_used-loop-x l = list_any (λ x. copy_used x (tree_at l.s.nodes.slots l.id.0)) (take l.x-index l.xs) ≡ false
