use Rattle.std.proofs.Common.{◌≡◌, ◌+◌, ◌*◌, true, take}
use Rattle.std.specs.List.{list_all}
use Rattle.ssu_ir.specs.inner.Checks.{addressed}
use Rattle.ssu_ir.specs.inner.Under.{tree_at, weight_at}
use Rattle.ssu_ir.proofs.search.+accesses.Given as goal

abbrev pub decreases-addressed : goal.decreases-addressed
decreases-addressed l = 2 * weight_at l.s.now.nodes.slots l.id.0

abbrev pub decreases-all_addressed : goal.decreases-all_addressed
decreases-all_addressed l = 2 * weight_at l.s.now.nodes.slots l.id.0 + 1

abbrev pub invariant-all_addressed-loop-x : goal.invariant-all_addressed-loop-x
invariant-all_addressed-loop-x l = list_all (λ x. addressed l.number x (tree_at l.s.nodes.slots l.id.0)) (take l.x-index l.xs) ≡ true
