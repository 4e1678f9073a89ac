-- Rows of live values at points.
use Rattle.std.specs.Prelude.{◌≡◌, ◌<◌, ℕ, Bool, true, ◌&&◌, Option, Some, List, length, map, filter}
use Rattle.std.specs.declared.vec.Vec.{Vec}
use Rattle.std.specs.declared.alloc.Global.{Global}
use Rattle.nv_base.specs.Sets.{is_in, all_different}
use Rattle.ssu_ir.specs.Points.{Point}

-- a row has each value that is live at a point, once, and no other
pub record IsRow (row : List ℕ) (p : Point) : Type 0 where
  pub once : all_different row ≡ true
  pub members : (x : ℕ) → is_in x row ≡ is_in x p.before
  pub count : length row ≡ length p.before

-- a row has each value that is live at a point and passes a test, once, and no other
pub record IsRowOf (keep : ℕ → Bool) (row : List ℕ) (p : Point) : Type 0 where
  pub once : all_different row ≡ true
  pub members : (x : ℕ) → is_in x row ≡ (keep x && is_in x p.before)
  pub count : length row ≡ length (filter keep p.before)

-- the live values at a point and pass a test have numbers below n, no two the same
pub record HaveNumbers (keep : ℕ → Bool) (number : ℕ → Option ℕ) (n : ℕ) (p : Point) : Type 0 where
  pub given : (x : ℕ) → keep x ≡ true → is_in x p.before ≡ true → (k : ℕ) × (number x ≡ Some k) × (k < n)
  pub apart : (x y k : ℕ) → keep x ≡ true → keep y ≡ true → is_in x p.before ≡ true → is_in y p.before ≡ true → (x ≡ y → ⊥) → number x ≡ Some k → number y ≡ Some k → ⊥

abbrev pub Kept : Type 0
Kept = Vec ℕ Global

-- lists that are kept in vectors
abbrev pub items_of : List Kept → List (List ℕ)
items_of vs = map (λ v. v.items) vs
