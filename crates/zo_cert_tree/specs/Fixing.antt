-- columns that are fixed at 0 or 1, one place a column
use Rattle.std.specs.Prelude.{ℕ, List, Bool, false, Option, Some, None, slice_index_or}

-- whether a column is fixed at 1
abbrev pub is_one : Option Bool → Bool
is_one (Some v) = v
is_one None = false

-- the vector in which the columns fixed at 1 are 1, and all others 0
abbrev pub ones : List (Option Bool) → ℕ → Bool
ones fixed j = is_one (slice_index_or fixed j None)
