use Rattle.uc_peep.proofs.Passes.{IsFresh}
use Rattle.uc_peep.proofs.draft.refresh.Given as goal

abbrev pub invariant-loop-x : goal.invariant-loop-x
invariant-loop-x l = IsFresh l.code l.p l.k l.initial.sets l.sets l.x
