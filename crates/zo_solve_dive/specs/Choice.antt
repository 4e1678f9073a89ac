-- the least unfixed column of a row that isn't met, else the least unfixed one
use Rattle.std.specs.Prelude.{◌≡◌, ℕ, ◌≤◌, List, [], ◌∷◌, Bool, Option, Some, None, ℤ, ◌⊎◌, slice_get}
use Rattle.zo_model.specs.Program.{Meets}
use Rattle.zo_model.specs.declared.program.Row.{Row}
use Rattle.zo_model.specs.declared.program.ZeroOne.{ZeroOne}
use Rattle.zo_cert_tree.specs.Fixing.{ones}

-- the column is there and unfixed
abbrev pub IsFree : List (Option Bool) → ℕ → Type 0
IsFree fixed j = slice_get fixed j ≡ Some None

-- some term has the column
abbrev pub HasColumn : ℕ → List (ℕ × ℤ) → Type 0
HasColumn j [] = ⊥
HasColumn j (t ∷ ts) = (t.0 ≡ j) ⊎ HasColumn j ts

-- the row has the column, and isn't met with 0 for the unfixed columns
pub record Lacks (fixed : List (Option Bool)) (j : ℕ) (r : Row) : Type 0 where
  pub not_met : Meets (ones fixed) r → ⊥
  pub there : HasColumn j r.terms.items

-- some row has the column and isn't met
abbrev pub SomeLacks : List (Option Bool) → ℕ → List Row → Type 0
SomeLacks fixed j [] = ⊥
SomeLacks fixed j (r ∷ rs) = Lacks fixed j r ⊎ SomeLacks fixed j rs

-- the column is unfixed, and some row that isn't met has it
pub record IsPreferred (rows : List Row) (fixed : List (Option Bool)) (j : ℕ) : Type 0 where
  pub free : IsFree fixed j
  pub lacks : SomeLacks fixed j rows

-- the least number with P
pub record IsLeast (P : ℕ → Type 0) (j : ℕ) : Type 0 where
  pub holds : P j
  pub least : (k : ℕ) → P k → j ≤ k

-- the least wanted column, or where none is wanted the least unfixed one
pub data IsFirstChoice (z : ZeroOne) (fixed : List (Option Bool)) (j : ℕ) : Type 0 where
  wanted : IsLeast (IsPreferred z.rows.items fixed) j → IsFirstChoice z fixed j
  none_wanted : ((k : ℕ) → ¬ (IsPreferred z.rows.items fixed k)) → IsLeast (IsFree fixed) j → IsFirstChoice z fixed j
