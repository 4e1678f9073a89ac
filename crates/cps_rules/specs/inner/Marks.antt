-- Which variables are marked.
use Rattle.std.specs.Prelude.{◌≡◌, ℕ, nat_eq, Bool, ◌||◌, List, slice_index_or}
use Rattle.nv_base.specs.Sets.{is_in}

abbrev pub Set : Type 0
Set = ℕ → Bool

-- a variable is marked where the table has the present round at it
abbrev pub marked_in : List ℕ → ℕ → Set
marked_in rounds round x = nat_eq (slice_index_or rounds x 0) round

-- the second set is the first and these variables
pub record Adds (xs : List ℕ) (old new : Set) : Type 0 where
  pub at : (y : ℕ) → new y ≡ (is_in y xs || old y)
