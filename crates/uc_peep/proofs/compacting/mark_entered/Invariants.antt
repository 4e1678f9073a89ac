use Rattle.uc_peep.specs.Draft.{AreMarked}
use Rattle.uc_peep.proofs.Marking.{IsEnteredBefore}
use Rattle.uc_peep.proofs.compacting.mark_entered.Given as goal

abbrev pub invariant-loop-x : goal.invariant-loop-x
invariant-loop-x l = AreMarked l.marks (IsEnteredBefore l.code l.x)
