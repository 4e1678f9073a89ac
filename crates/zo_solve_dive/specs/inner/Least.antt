-- the least number of a kind, where there is one
use Rattle.std.specs.Prelude.{ℕ, List, Bool, Option, Some, None, ℤ, ◌⊎◌}
use Rattle.zo_model.specs.declared.program.Row.{Row}
use Rattle.zo_solve_dive.specs.Choice.{HasColumn, IsFree, IsLeast, Lacks}

-- the least number with P, or that there is none
abbrev pub AnswersLeast : (ℕ → Type 0) → Option ℕ → Type 0
AnswersLeast P None = (k : ℕ) → ¬ (P k)
AnswersLeast P (Some j) = IsLeast P j

-- an unfixed column of these terms
pub record IsFreeIn (fixed : List (Option Bool)) (ts : List (ℕ × ℤ)) (j : ℕ) : Type 0 where
  pub free : IsFree fixed j
  pub there : HasColumn j ts

-- an unfixed column of this row, which isn't met
pub record IsPreferredBy (fixed : List (Option Bool)) (r : Row) (j : ℕ) : Type 0 where
  pub free : IsFree fixed j
  pub lacks : Lacks fixed j r

-- one of either kind
abbrev pub Either : (ℕ → Type 0) → (ℕ → Type 0) → ℕ → Type 0
Either P Q j = P j ⊎ Q j
