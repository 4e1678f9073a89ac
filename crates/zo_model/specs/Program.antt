-- 0-1 programs: which are valid, what a 0-1 vector costs, and whether it meets the rows
use Rattle.std.specs.Prelude.{◌≢◌, ℕ, zero, suc, ◌+◌, ◌<◌, ◌≤◌, ◌^◌, List, [], ◌∷◌, length, Bool, true, false, ℤ, pos, neg_ℤ, ◌+ℤ◌, ◌≤ℤ◌, All, slice_index, slice_index_or}
use Rattle.zo_model.specs.declared.program.Row.{Row}
use Rattle.zo_model.specs.declared.program.ZeroOne.{ZeroOne}

-- ---- sums

-- the sum of f over a list
abbrev pub total : {A : Type 0} → (A → ℤ) → List A → ℤ
total f [] = pos 0
total f (x ∷ xs) = f x +ℤ total f xs

-- the sum of f over the numbers below n
abbrev pub sum_below : ℕ → (ℕ → ℤ) → ℤ
sum_below zero f = pos 0
sum_below (suc n) f = sum_below n f +ℤ f n

-- a where the column is 1, else 0
abbrev pub where_one : Bool → ℤ → ℤ
where_one true a = a
where_one false a = pos 0

-- ---- vectors, and what they cost

-- the vector in which these columns are 1; those past the end are 0
abbrev pub vector : List Bool → ℕ → Bool
vector xs j = slice_index_or xs j false

-- how many columns there are
abbrev pub columns : ZeroOne → ℕ
columns z = length z.costs.items

-- the cost of one column, where it is 1
abbrev pub cost_where : Bool → ℕ → ℕ
cost_where true c = c
cost_where false c = 0

-- the sum of the costs of the columns below n that are 1
abbrev pub cost_below : ℕ → List ℕ → (ℕ → Bool) → ℕ
cost_below zero costs x = 0
cost_below (suc n) costs x = cost_below n costs x + cost_where (x n) (slice_index costs n)

-- the sum of the costs of the columns that are 1
abbrev pub costs_of : List ℕ → (ℕ → Bool) → ℕ
costs_of costs x = cost_below (length costs) costs x

-- what a vector costs
abbrev pub cost_of : ZeroOne → (ℕ → Bool) → ℕ
cost_of z x = costs_of z.costs.items x

-- ---- rows

-- the sum of the coefficients of the columns that are 1
unfoldable pub terms_sum : List (ℕ × ℤ) → (ℕ → Bool) → ℤ
terms_sum ts x = total (λ t. where_one (x t.0) t.1) ts

-- a row's sum
abbrev pub row_sum : Row → (ℕ → Bool) → ℤ
row_sum r x = terms_sum r.terms.items x

-- the row's sum is at least its least
abbrev pub Meets : (ℕ → Bool) → Row → Type 0
Meets x r = r.least ≤ℤ row_sum r x

-- the vector meets every row
abbrev pub Feasible : ZeroOne → (ℕ → Bool) → Type 0
Feasible z x = All (Meets x) z.rows.items

-- ---- valid programs

-- the absolute value is at most b
pub record AtMost (b : ℕ) (a : ℤ) : Type 0 where
  pub low : neg_ℤ (pos b) ≤ℤ a
  pub high : a ≤ℤ pos b

-- the numbers that the pairs begin with rise, from lo on, and are below n
abbrev pub Rise : {B : Type 0} → ℕ → ℕ → List (ℕ × B) → Type 0
Rise lo n [] = Unit {0}
Rise lo n (p ∷ ps) = (lo ≤ p.0) × (p.0 < n) × Rise (suc p.0) n ps

-- a coefficient fits 16 bits and is not 0
pub record IsCoefficient (a : ℤ) : Type 0 where
  pub low : neg_ℤ (pos 32768) ≤ℤ a
  pub high : a ≤ℤ pos 32767
  pub not_zero : a ≢ pos 0

-- terms over n columns: the columns rise and are there
pub record AreTerms (n : ℕ) (ts : List (ℕ × ℤ)) : Type 0 where
  pub few : n ≤ 2 ^ 26
  pub rise : Rise 0 n ts
  pub coefficients_fit : All (λ t. IsCoefficient t.1) ts

-- what a sum over terms rests on: few terms, over columns that are there, with small coefficients
pub record AreSmallTerms (n : ℕ) (ts : List (ℕ × ℤ)) : Type 0 where
  pub short : length ts ≤ 2 ^ 26
  pub within : All (λ t. t.0 < n) ts
  pub coefficients_fit : All (λ t. AtMost (2 ^ 15) t.1) ts

-- a row over n columns
pub record IsRow (n : ℕ) (r : Row) : Type 0 where
  pub terms_fit : AreTerms n r.terms.items
  pub least_fits : AtMost (2 ^ 30) r.least

-- at most 2 ^ 26 columns and rows, each cost below 2 ^ 20, each row with its limits
pub record IsValid (z : ZeroOne) : Type 0 where
  pub columns_fit : columns z ≤ 2 ^ 26
  pub rows_fit : length z.rows.items ≤ 2 ^ 26
  pub costs_fit : All (λ c. c < 2 ^ 20) z.costs.items
  pub rows_ok : All (IsRow (columns z)) z.rows.items
