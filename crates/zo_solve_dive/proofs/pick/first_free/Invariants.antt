use Rattle.std.proofs.Common.{ℕ, take}
use Rattle.zo_solve_dive.specs.Choice.{HasColumn, IsFree}
use Rattle.zo_solve_dive.proofs.pick.first_free.Given as goal

abbrev pub invariant-loop-j : goal.invariant-loop-j
invariant-loop-j l = (m : ℕ) → HasColumn m (take l.j-index l.terms) → IsFree l.fixed m → ⊥
