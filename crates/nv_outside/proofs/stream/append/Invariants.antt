use Rattle.std.proofs.Common.{◌≡◌, ℕ, List, ◌+◌, ◌++◌, length}
use Rattle.std.specs.Io.KnownBytes.{Consumes}
use Rattle.nv_outside.proofs.stream.append.Given as goal

abbrev pub invariant-loop : goal.invariant-loop
invariant-loop g l = (bytes : List ℕ) × (l.left + length bytes ≡ l.limit) × (l.into.items ≡ l.initial.into.items ++ bytes) × Consumes (g.F.Read.remaining l.initial.file) (g.F.Read.remaining l.file) bytes
