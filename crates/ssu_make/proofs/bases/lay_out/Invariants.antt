use Rattle.std.proofs.Common.{take}
use Rattle.ssu_make.specs.inner.Making.{counted, LaidOut}
use Rattle.ssu_make.proofs.bases.lay_out.Given as goal

abbrev pub invariant-loop-x : goal.invariant-loop-x
invariant-loop-x l = LaidOut (counted l.bases) (counted l.counts) l.initial.fresh l.fresh (take l.x-index l.variables)
