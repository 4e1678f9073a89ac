-- A context's own entries.
use Rattle.std.specs.Prelude.{ℕ, nat_eq, if◌then◌else◌}

-- how many of a pair of a context's number and a number of entries are those of context i
abbrev pub own_of : ℕ → ℕ × ℕ → ℕ
own_of i pair = if nat_eq i pair.0 then pair.1 else 0
