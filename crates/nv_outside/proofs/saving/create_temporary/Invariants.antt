use Rattle.nv_outside.proofs.Steps.{PassesOver}
use Rattle.nv_outside.proofs.saving.create_temporary.Given as goal

abbrev pub invariant-loop-number : goal.invariant-loop-number
invariant-loop-number g l = PassesOver g.C.SaveCalls.history l.name l.initial.calls l.calls l.number
