-- How long a source may be.
use Rattle.std.specs.Prelude.{ℕ}

-- in bytes
abbrev pub source_limit : ℕ
source_limit = 262144
