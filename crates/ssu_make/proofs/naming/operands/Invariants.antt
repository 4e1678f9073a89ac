use Rattle.ssu_make.specs.inner.Making.{counted}
use Rattle.ssu_make.proofs.Along.{Named}
use Rattle.ssu_make.proofs.naming.operands.Given as goal

abbrev pub invariant-loop-i : goal.invariant-loop-i
invariant-loop-i l = Named (counted l.bases) (counted l.initial.counts) l.initial.fresh l.list l.i l.v.items (counted l.counts) l.fresh

abbrev pub decreases-loop-i : goal.decreases-loop-i
decreases-loop-i l = l.i
