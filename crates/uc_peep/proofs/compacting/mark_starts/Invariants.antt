use Rattle.std.proofs.Common.{take}
use Rattle.uc_peep.specs.Draft.{AreMarked}
use Rattle.uc_isa.specs.Starts.{IsLabelStart}
use Rattle.uc_peep.proofs.compacting.mark_starts.Given as goal

abbrev pub invariant-loop-s : goal.invariant-loop-s
invariant-loop-s l = AreMarked l.marks (IsLabelStart (take l.s-index l.starts))
