use Rattle.ssu_ir.specs.inner.Under.{weight_at}
use Rattle.ssu_ir.proofs.search.+mentions.Given as goal

abbrev pub decreases-mentions : goal.decreases-mentions
decreases-mentions l = weight_at l.s.now.nodes.slots l.id.0
