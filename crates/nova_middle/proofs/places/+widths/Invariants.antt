use Rattle.std.proofs.Common.{◌≤◌, ◌+◌, ◌*◌, All, vec_len}
use Rattle.flow_ir.specs.View.{tree_view}
use Rattle.flow_ir.specs.declared.flow.Tree.{size-Tree}
use Rattle.ssu_make.specs.inner.Making.{tops}
use Rattle.nova_middle.proofs.Spines.{OnWay}
use Rattle.nova_middle.proofs.places.+widths.Given as goal

abbrev pub invariant-tree_part-walk : goal.invariant-tree_part-walk
invariant-tree_part-walk l = OnWay (tops l.nodes.items) l.part (tree_view l.t) × All (λ s. size-Tree s.now ≤ size-Tree l.t) l.nodes.items

abbrev pub decreases-tree_part-walk : goal.decreases-tree_part-walk
decreases-tree_part-walk l = vec_len l.nodes

abbrev pub decreases-tree_part : goal.decreases-tree_part
decreases-tree_part l = 2 * size-Tree l.t.now + 1

abbrev pub decreases-node_part : goal.decreases-node_part
decreases-node_part l = 2 * size-Tree l.t.now
