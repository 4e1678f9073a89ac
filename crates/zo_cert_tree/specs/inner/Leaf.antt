-- how the bound of a leaf is computed from the columns that its rows touch alone
use Rattle.std.specs.Prelude.{◌≡◌, ◌≢◌, ℕ, ◌*◌, List, length, Bool, true, false, ℤ, pos, neg_ℤ, ◌-ℤ◌, All, slice_index, slice_index_or, Option, Some, None}
use Rattle.std.specs.Int.{int_min}
use Rattle.zo_model.specs.Program.{sum_below}

-- as many weights as columns, all 0
pub record IsClear (n : ℕ) (weights : List ℤ) : Type 0 where
  pub one_a_column : length weights ≡ n
  pub zero : All (λ w. w ≡ pos 0) weights

-- by how much a column of weight w changes the bound, against a column of weight 0
abbrev pub change : Option Bool → ℤ → ℤ → ℤ
change (Some true) a w = neg_ℤ w
change (Some false) a w = pos 0
change None a w = int_min (a -ℤ w) (pos 0)

-- by how much the columns below n change it
unfoldable pub changes : List ℕ → ℕ → List ℤ → List (Option Bool) → ℕ → ℤ
changes costs d weights fixed n =
    sum_below n (λ j. change (slice_index_or fixed j None) (pos (d * slice_index costs j)) (slice_index_or weights j (pos 0)))

-- no term has the column j
abbrev pub Avoids : ℕ → List (ℕ × ℤ) → Type 0
Avoids j ts = All (λ t. t.0 ≢ j) ts
