use Rattle.std.proofs.Common.{◌≡◌, ◌++◌, map}
use Rattle.cps_ir.specs.View.{term_view, label_view}
use Rattle.cps_close.specs.inner.Closed.{labels_in}
use Rattle.cps_close.specs.inner.Pending.{part_view, labels_pending}
use Rattle.cps_close.proofs.Work.{work}
use Rattle.cps_close.proofs.collect.labels_in.Given as goal

abbrev pub invariant-loop-part : goal.invariant-loop-part
invariant-loop-part l = map (λ c. label_view c.now) l.found.items ++ labels_pending (map part_view l.pending.items) ≡ labels_in (term_view l.t)

abbrev pub decreases-loop-part : goal.decreases-loop-part
decreases-loop-part l = work (map part_view l.pending.items)
