use Rattle.std.proofs.Common.{◌≡◌}
use Rattle.ssu_ir.specs.View.{labels_view}
use Rattle.ssu_liveness.specs.inner.Live.{value_by}
use Rattle.place_ir_checks.specs.inner.NodeLookups.{value_in}
use Rattle.place_ir_checks.proofs.Walked.{sources-from}
use Rattle.place_ir_checks.proofs.points.value_of.Given as goal

abbrev pub invariant-loop-l : goal.invariant-loop-l
invariant-loop-l l = value_in (labels_view l.s) l.z ≡ value_by (λ y. sources-from l.s l.l-index y) l.z
