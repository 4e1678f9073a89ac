use Rattle.std.proofs.Common.{◌≡◌, ◌-◌, ◌++◌, length}
use Rattle.ssu_ir.specs.Slots.{preorder_all}
use Rattle.ssu_ir.specs.View.{placed_of}
use Rattle.ssu_ir.specs.Work.{tops, nums, Todo}
use Rattle.ssu_ir.proofs.walk.preorder.Given as goal

abbrev pub invariant-walk : goal.invariant-walk
invariant-walk l = record {
  todo : Todo l.s.nodes.slots (tops l.work.items);
  so_far : nums l.order.items ++ preorder_all todo.left ≡ preorder_all (placed_of l.s);
}

abbrev pub decreases-walk : goal.decreases-walk
decreases-walk l = length (preorder_all (placed_of l.s)) - length (nums l.order.items)
