use Rattle.std.proofs.Common.{◌≡◌, ℕ, ◌<◌, length, get_or, slice_get, pos}
use Rattle.zo_cert_tree.specs.Certificate.{terms_of}
use Rattle.zo_cert_tree.specs.Searched.{reach}
use Rattle.zo_solve_dive.proofs.tables.reaches_of.Given as goal

abbrev pub invariant-loop-i : goal.invariant-loop-i
invariant-loop-i l = record {
  one_a_row : length l.sums.items ≡ l.i;
  each : (k : ℕ) → k < l.i → get_or l.sums.items k (pos 0) ≡ reach l.fixed (terms_of (slice_get l.z.rows.items k));
}
