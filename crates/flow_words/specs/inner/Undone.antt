-- A table with more known, and what was known before.
use Rattle.std.specs.Prelude.{◌≡◌, ℕ, nat_eq, if◌then◌else◌, List, [], ◌∷◌}
use Rattle.flow_words.specs.declared.state.Known.{Known}
use Rattle.flow_words.specs.Tables.{Table, with_known}

-- the second table is the first, but that this is known of x
pub record IsSet (T : Table) (x : ℕ) (k : Known) (U : Table) : Type 0 where
  pub at : (y : ℕ) → U y ≡ (if nat_eq y x then k else T y)

-- the table before these were set, the last one first
abbrev pub undone : List (ℕ × Known) → Table → Table
undone [] T = T
undone (s ∷ ss) T = with_known (undone ss T) s.0 s.1
