use Rattle.std.proofs.Common.{take}
use Rattle.zo_solve_dive.specs.Choice.{IsPreferred}
use Rattle.zo_solve_dive.specs.inner.Least.{AnswersLeast}
use Rattle.zo_solve_dive.proofs.pick.least_preferred.Given as goal

abbrev pub invariant-loop-i : goal.invariant-loop-i
invariant-loop-i l = AnswersLeast (IsPreferred (take l.i l.z.rows.items) l.fixed.at.items) l.best
