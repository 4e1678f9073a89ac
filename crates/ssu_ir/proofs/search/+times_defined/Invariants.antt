use Rattle.ssu_ir.specs.inner.Under.{weight_at}
use Rattle.ssu_ir.proofs.search.+times_defined.Given as goal

abbrev pub decreases-times_defined : goal.decreases-times_defined
decreases-times_defined l = weight_at l.s.now.nodes.slots l.id.0
