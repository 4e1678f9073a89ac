use Rattle.ssu_ir.specs.inner.Under.{weight_at}
use Rattle.place_ir_checks.proofs.points.+node_under.Given as goal

abbrev pub decreases-node_under : goal.decreases-node_under
decreases-node_under l = weight_at l.s.now.nodes.slots l.id.0
