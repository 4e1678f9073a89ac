use Rattle.ssu_ir.specs.inner.Under.{weight_at}
use Rattle.ssu_ir.proofs.single_use.+is_kept.Given as goal

abbrev pub decreases-is_kept : goal.decreases-is_kept
decreases-is_kept l = weight_at l.s.now.nodes.slots l.id.0
