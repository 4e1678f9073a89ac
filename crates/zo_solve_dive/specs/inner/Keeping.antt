-- how running sums of rows are kept
use Rattle.std.specs.Prelude.{◌≡◌, ℕ, ◌<◌, ◌^◌, List, [], length, Bool, false, nat_eq, Option, Some, None, slice_get, slice_index_or, ℤ, pos, ◌+ℤ◌, ◌-ℤ◌, ◌≤ℤ◌, All, IfSome}
use Rattle.std.specs.Global.{Vec}
use Rattle.zo_model.specs.Program.{AtMost, IsValid, columns, terms_sum, total, where_one}
use Rattle.zo_model.specs.declared.program.Row.{Row}
use Rattle.zo_model.specs.declared.program.ZeroOne.{ZeroOne}
use Rattle.zo_cert_tree.specs.Certificate.{terms_of}
use Rattle.zo_cert_tree.specs.Fixing.{ones}
use Rattle.zo_cert_tree.specs.Searched.{reach, reach_part}

-- an unfixed column counted as 0
abbrev pub settled : Option Bool → Option Bool
settled (Some v) = Some v
settled None = Some false

-- by how much a sum changes where a column of coefficient a goes from one place to another
abbrev pub moved : Option Bool → Option Bool → ℤ → ℤ
moved old new a = reach_part new a -ℤ reach_part old a

-- the sum of g over the pairs that begin with k
unfoldable pub along : ℕ → (ℤ → ℤ) → List (ℕ × ℤ) → ℤ
along k g ps = total (λ p. where_one (nat_eq p.0 k) (g p.1)) ps

-- rows below n, each with a small coefficient
pub record AreEntries (n : ℕ) (es : List (ℕ × ℤ)) : Type 0 where
  pub within : All (λ e. e.0 < n) es
  pub small : All (λ e. AtMost (2 ^ 15) e.1) es

-- the rows of a column, each with its coefficient
abbrev pub entries_of : Option (Vec (ℕ × ℤ)) → List (ℕ × ℤ)
entries_of None = []
entries_of (Some c) = c.items

-- each term of the row has come to its column
pub record IsSpread (row : ℕ) (ts : List (ℕ × ℤ)) (old new : List (Vec (ℕ × ℤ))) : Type 0 where
  pub as_many : length new ≡ length old
  pub still : (n : ℕ) → row < n → All (λ c. AreEntries n c.items) old → All (λ c. AreEntries n c.items) new
  pub longer : (i j : ℕ) (g : ℤ → ℤ) → j < length old → along i g (entries_of (slice_get new j)) ≡ along i g (entries_of (slice_get old j)) +ℤ where_one (nat_eq row i) (along j g ts)

-- the columns have what the rows have
pub record IsTranspose (z : ZeroOne) (cs : List (Vec (ℕ × ℤ))) : Type 0 where
  pub one_a_column : length cs ≡ columns z
  pub entries_fit : All (λ c. AreEntries (length z.rows.items) c.items) cs
  pub same : (i j : ℕ) (g : ℤ → ℤ) → j < columns z → along i g (entries_of (slice_get cs j)) ≡ along j g (terms_of (slice_get z.rows.items i))

-- each sum is the plain sum of its row
pub record KeepsSums (z : ZeroOne) (cs : List (Vec (ℕ × ℤ))) (fixed : List (Option Bool)) (reaches sums : List ℤ) : Type 0 where
  pub valid : IsValid z
  pub transposed : IsTranspose z cs
  pub places : length fixed ≡ columns z
  pub reach_a_row : length reaches ≡ length z.rows.items
  pub sum_a_row : length sums ≡ length z.rows.items
  pub reaches_are : (i : ℕ) → i < length z.rows.items → slice_index_or reaches i (pos 0) ≡ reach fixed (terms_of (slice_get z.rows.items i))
  pub sums_are : (i : ℕ) → i < length z.rows.items → slice_index_or sums i (pos 0) ≡ terms_sum (terms_of (slice_get z.rows.items i)) (ones fixed)

-- no sum is below its row's least
abbrev pub EachReaches : List Row → List ℤ → Type 0
EachReaches rows sums = (i : ℕ) → i < length rows → IfSome (slice_get rows i) (λ r. r.least ≤ℤ slice_index_or sums i (pos 0))
