use Rattle.std.proofs.Common.{◌≡◌, ℕ, List, ◌≤◌, ◌++◌}
use Rattle.std.specs.Prelude.{max, vec_len}
use Rattle.std.specs.Io.KnownBytes.{Consumes}
use Rattle.nova_capture.proofs.reader.fill.Given as goal

-- what was read stands behind what was there
abbrev pub invariant-loop : goal.invariant-loop
invariant-loop g l = (bytes : List ℕ) × (l.into.items ≡ l.initial.into.items ++ bytes) × (vec_len l.into ≤ max (vec_len l.initial.into) l.len) × Consumes (g.R.Read.remaining l.initial.input) (g.R.Read.remaining l.input) bytes
