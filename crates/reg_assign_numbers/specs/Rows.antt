-- Numbers by which the values of rows differ.
use Rattle.std.specs.Prelude.{◌≡◌, ◌<◌, ℕ, true, Option, Some, List}
use Rattle.nv_base.specs.Sets.{is_in, all_different}

-- each value of a row is there once, and they have numbers below n, no two the same
pub record HasNumbers (number : ℕ → Option ℕ) (n : ℕ) (row : List ℕ) : Type 0 where
  pub once : all_different row ≡ true
  pub given : (x : ℕ) → is_in x row ≡ true → (k : ℕ) × (number x ≡ Some k) × (k < n)
  pub apart : (x y k : ℕ) → is_in x row ≡ true → is_in y row ≡ true → (x ≡ y → ⊥) → number x ≡ Some k → number y ≡ Some k → ⊥
