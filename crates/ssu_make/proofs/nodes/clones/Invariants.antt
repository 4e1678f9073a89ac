use Rattle.ssu_make.specs.inner.Making.{counted}
use Rattle.ssu_make.proofs.Along.{ClonesOn}
use Rattle.ssu_make.proofs.nodes.clones.Given as goal

abbrev pub invariant-loop-i : goal.invariant-loop-i
invariant-loop-i l = ClonesOn l.initial.build l.build l.fn.root.0 l.id.0 (counted l.bases) (counted l.counts) l.xs l.i

abbrev pub decreases-loop-i : goal.decreases-loop-i
decreases-loop-i l = l.i
