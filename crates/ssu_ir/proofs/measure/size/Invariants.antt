use Rattle.std.proofs.Common.{◌≡◌, ◌+◌, ◌-◌}
use Rattle.ssu_ir.specs.Slots.{bare_all}
use Rattle.ssu_ir.specs.View.{labels_view}
use Rattle.ssu_ir.specs.Measures.{size, tree_size}
use Rattle.ssu_ir.specs.Work.{tops, Todo}
use Rattle.ssu_ir.proofs.Walks.{sum_trees}
use Rattle.ssu_ir.proofs.measure.size.Given as goal

abbrev pub invariant-walk : goal.invariant-walk
invariant-walk l = record {
  todo : Todo l.s.nodes.slots (tops l.work.items);
  sum : l.total + sum_trees tree_size (bare_all todo.left) ≡ size (labels_view l.s);
}

abbrev pub decreases-walk : goal.decreases-walk
decreases-walk l = size (labels_view l.s) - l.total
