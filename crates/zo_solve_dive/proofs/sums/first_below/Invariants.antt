use Rattle.std.proofs.Common.{ℕ, ◌<◌, slice_get, get_or, pos, ◌≤ℤ◌}
use Rattle.std.specs.Prelude.{IfSome}
use Rattle.zo_solve_dive.proofs.sums.first_below.Given as goal

abbrev pub invariant-loop-i : goal.invariant-loop-i
invariant-loop-i l = (k : ℕ) → k < l.i → IfSome (slice_get l.rows k) (λ r. r.least ≤ℤ get_or l.sums k (pos 0))
