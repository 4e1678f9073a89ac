use Rattle.std.proofs.Common.{vec_len}
use Rattle.flow_ir.specs.View.{tree_view}
use Rattle.ssu_make.specs.inner.Making.{counted}
use Rattle.ssu_make.proofs.Along.{OnWay}
use Rattle.ssu_make.proofs.tree.make_tree.Given as goal

abbrev pub invariant-walk : goal.invariant-walk
invariant-walk l = OnWay (counted l.bases) l.fn.fresh (tree_view l.t) l.order.items l.fn.build l.build l.fresh l.parts.items

abbrev pub decreases-walk : goal.decreases-walk
decreases-walk l = vec_len l.order
