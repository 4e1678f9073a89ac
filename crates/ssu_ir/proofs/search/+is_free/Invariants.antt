use Rattle.ssu_ir.specs.inner.Under.{weight_at}
use Rattle.ssu_ir.proofs.search.+is_free.Given as goal

abbrev pub decreases-is_free : goal.decreases-is_free
decreases-is_free l = weight_at l.s.now.nodes.slots l.id.0
