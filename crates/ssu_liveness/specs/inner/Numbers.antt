-- Numbers for values: no two values of a row have one.
use Rattle.std.specs.Prelude.{◌≡◌, ℕ, ◌<◌, Bool, true, false, Option, Some, None, is_some, List, [], ◌∷◌, ◌++◌, length}
use Rattle.nv_base.specs.Sets.{is_in}
use Rattle.ssu_ir.specs.Points.{PointKind, Entry, At, place_values}

-- the number of each value, where it has one
abbrev pub Numbers : Type 0
Numbers = ℕ → Option ℕ

-- whether a value has a number
abbrev pub has_number : Numbers → ℕ → Bool
has_number number x = is_some (number x)

-- a value has a number below this one
pub record HasBelow (number : Numbers) (x n : ℕ) : Type 0 where
  pub it : ℕ
  pub has : number x ≡ Some it
  pub below : it < n

-- those of these values that are in a row got numbers, each another than those of the row's other values
pub record Numbered (old : Numbers) (vs row : List ℕ) (new : Numbers) : Type 0 where
  pub kept : (z : ℕ) → is_in z vs ≡ false → new z ≡ old z
  pub still : (z n : ℕ) → old z ≡ Some n → new z ≡ Some n
  pub given : (z : ℕ) → is_in z vs ≡ true → is_in z row ≡ true → HasBelow new z (length row)
  pub apart : (x y n : ℕ) → is_in x vs ≡ true → is_in x row ≡ true → is_in y row ≡ true → (x ≡ y → ⊥) → new x ≡ Some n → new y ≡ Some n → ⊥

-- values that get numbers together, with the row in which they must differ
abbrev pub Group : Type 0
Group = List ℕ × List ℕ

abbrev pub row_at : List (List ℕ) → List ℕ
row_at [] = []
row_at (r ∷ rs) = r

abbrev pub group_row : PointKind → List ℕ → List (List ℕ) → List ℕ
group_row (Entry l ps) r rs = r
group_row (At n) r rs = row_at rs

-- at an entry its parameters, in its own row; at a node the values that it defines, in the row of the next point
abbrev pub groups : List PointKind → List (List ℕ) → List Group
groups [] rs = []
groups (q ∷ qs) [] = []
groups (q ∷ qs) (r ∷ rs) = (place_values q, group_row q r rs) ∷ groups qs rs

-- the values of points
abbrev pub values_among : List PointKind → List ℕ
values_among [] = []
values_among (q ∷ qs) = place_values q ++ values_among qs

-- groups one after the other
pub data Chain : Numbers → List Group → Numbers → Type 0 where
  last : {number : Numbers} → Chain number [] number
  next : {old new : Numbers} (mid : Numbers) {g : Group} {gs : List Group} → Numbered old g.0 g.1 mid → Chain mid gs new → Chain old (g ∷ gs) new

-- no two values of a row have one number
abbrev pub IsApart : Numbers → List ℕ → Type 0
IsApart number row = (x y n : ℕ) → is_in x row ≡ true → is_in y row ≡ true → (x ≡ y → ⊥) → number x ≡ Some n → number y ≡ Some n → ⊥

-- groups got their numbers, and nothing had one before
pub record AreNumbered (gs : List Group) (number : Numbers) : Type 0 where
  pub old : Numbers
  pub none : (z : ℕ) → old z ≡ None
  pub chain : Chain old gs number
