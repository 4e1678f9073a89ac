use Rattle.std.proofs.Common.{take}
use Rattle.ssu_make.specs.Uses.{kept}
use Rattle.ssu_make.proofs.Along.{Raised}
use Rattle.ssu_make.proofs.counts.Counts.raised.Given as goal

abbrev pub invariant-loop-x : goal.invariant-loop-x
invariant-loop-x l = Raised (kept l.initial.self.map) (kept l.other.map) (kept l.self.map) (take l.x-index l.other.keys.items)
