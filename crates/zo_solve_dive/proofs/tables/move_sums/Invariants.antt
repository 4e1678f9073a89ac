use Rattle.std.proofs.Common.{◌≡◌, ℕ, ◌<◌, take, length, get_or, pos, ◌+ℤ◌}
use Rattle.zo_solve_dive.specs.inner.Keeping.{along, moved}
use Rattle.zo_solve_dive.proofs.tables.move_sums.Given as goal

abbrev pub invariant-loop-i : goal.invariant-loop-i
invariant-loop-i l = record {
  kept : length l.sums ≡ length l.initial.sums;
  added : (i : ℕ) → i < length l.initial.sums → get_or l.sums i (pos 0) ≡ get_or l.initial.sums i (pos 0) +ℤ along i (moved l.old l.new) (take l.i-index l.entries);
}
