use Rattle.flow_ir.specs.View.{tree_view}
use Rattle.ssu_make.specs.inner.Making.{tops, Builds}
use Rattle.ssu_make.proofs.Along.{weights}
use Rattle.ssu_make.proofs.tree.tree_order.Given as goal

abbrev pub invariant-walk : goal.invariant-walk
invariant-walk l = Builds (tops l.order.items) (tops l.work.items) (tree_view l.t)

abbrev pub decreases-walk : goal.decreases-walk
decreases-walk l = weights (tops l.work.items)
