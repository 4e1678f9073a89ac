use Rattle.ssu_ir.specs.inner.Under.{weight_at}
use Rattle.place_ir_checks.proofs.points.+source_under.Given as goal

abbrev pub decreases-source_under : goal.decreases-source_under
decreases-source_under l = weight_at l.s.now.nodes.slots l.id.0
