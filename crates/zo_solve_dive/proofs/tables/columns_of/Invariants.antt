use Rattle.zo_solve_dive.proofs.Spread.{IsSoFar}
use Rattle.zo_solve_dive.proofs.tables.columns_of.Given as goal

abbrev pub invariant-loop-i : goal.invariant-loop-i
invariant-loop-i l = IsSoFar l.z l.i l.columns.items
