use Rattle.place_ir_checks.proofs.Walked.{IsLeft}
use Rattle.place_ir_checks.proofs.points.is_above.Given as goal

abbrev pub invariant-loop-l : goal.invariant-loop-l
invariant-loop-l l = IsLeft l.s l.k l.l l.left
