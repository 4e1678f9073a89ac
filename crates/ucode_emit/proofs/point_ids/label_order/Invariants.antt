use Rattle.std.proofs.Common.{◌≡◌, ◌-◌, ◌++◌, length}
use Rattle.ssu_ir.specs.Slots.{preorder, preorder_all}
use Rattle.ssu_ir.specs.Work.{tops, nums, Todo}
use Rattle.ssu_liveness.specs.inner.Live.{label_tree}
use Rattle.ucode_emit.proofs.point_ids.label_order.Given as goal

abbrev pub invariant-walk : goal.invariant-walk
invariant-walk l = record {
  todo : Todo l.s.nodes.slots (tops l.work.items);
  so_far : nums l.order.items ++ preorder_all todo.left ≡ preorder (label_tree l.s l.l);
}

abbrev pub decreases-walk : goal.decreases-walk
decreases-walk l = length (preorder (label_tree l.s l.l)) - length (nums l.order.items)
