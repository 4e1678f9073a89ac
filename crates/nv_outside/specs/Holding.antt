-- What a file store holds, and how a call may change it.
use Rattle.std.specs.Prelude.{◌≡◌, ◌≢◌, ℕ, ◌<◌, ◌++◌, List, Option, Some, length}

-- for each name its bytes, or nothing
abbrev pub Holding : Type 0
Holding = List ℕ → Option (List ℕ)

-- every name but this one has what it had
abbrev pub SameElsewhere : Holding → Holding → List ℕ → Type 0
SameElsewhere old new name = (other : List ℕ) → other ≢ name → new other ≡ old other

-- this name has exactly these bytes, and every other name has what it had
pub record Replaced (old new : Holding) (name bytes : List ℕ) : Type 0 where
  pub here : new name ≡ Some bytes
  pub elsewhere : SameElsewhere old new name

-- the file under this name has more bytes than the limit
abbrev pub IsLonger : Holding → List ℕ → ℕ → Type 0
IsLonger held name limit = (bytes : List ℕ) × (held name ≡ Some bytes) × (limit < length bytes)

-- some front of a piece, maybe empty and maybe all, was appended
abbrev pub AppendsFront : List ℕ → List ℕ → List ℕ → Type 0
AppendsFront old new piece = (front : List ℕ) × (rest : List ℕ) × (piece ≡ front ++ rest) × (new ≡ old ++ front)
