use Rattle.std.proofs.Common.{◌≡◌, ℕ, List, bytes_eq, drop, map}
use Rattle.std.specs.HashMap.{get_by}
use Rattle.nv_meaning_values.specs.inner.Tables.{place_from, or_else}
use Rattle.nv_meaning_values.proofs.table.exception_places.Given as goal

abbrev pub invariant-loop-i : goal.invariant-loop-i
invariant-loop-i t = (y : List ℕ) → or_else (get_by (λ key. bytes_eq y key.now) t.places) (place_from t.i y (map (λ x. x.now) (drop t.i t.exceptions))) ≡ place_from 0 y (map (λ x. x.now) t.exceptions)
