use Rattle.ssu_ir.specs.inner.Under.{weight_at}
use Rattle.place_ir_checks.proofs.points.+way_to.Given as goal

abbrev pub decreases-way_to : goal.decreases-way_to
decreases-way_to l = weight_at l.s.now.nodes.slots l.id.0
