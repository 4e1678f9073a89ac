-- What rows by names say of a 0-1 vector over the columns' numbers.
use Rattle.std.specs.Prelude.{ℕ, ◌+◌, Bool, false, List, [], ◌∷◌, Option, Some, None, All, ℤ, ◌≤ℤ◌}
use Rattle.ssu_ir.specs.Tree.{Label}
use Rattle.zo_model.specs.Program.{total, where_one, cost_where}
use Rattle.bank_prog_form.specs.declared.column.Column.{Column}
use Rattle.bank_prog_form.specs.Columns.{Priced}
use Rattle.bank_prog_form.specs.Rows.{Line, lines}
use Rattle.bank_prog_form.specs.Program.{number_of}

-- which columns are 1, by name; one that isn't there is 0
abbrev pub Chosen : Type 0
Chosen = Column → Bool

abbrev pub number_on : (ℕ → Bool) → Option ℕ → Bool
number_on x (Some j) = x j
number_on x None = false

abbrev pub on : List Label → (ℕ → Bool) → Chosen
on labels x c = number_on x (number_of labels c)

-- the sum of the coefficients of the columns that are 1
abbrev pub named_sum : Chosen → List (Column × ℤ) → ℤ
named_sum on ts = total (λ t. where_one (on t.0) t.1) ts

abbrev pub Holds : Chosen → Line → Type 0
Holds on l = l.least ≤ℤ named_sum on l.terms

-- a vector meets every row of the program of the banks
abbrev pub IsFeasible : List Label → ℕ → (ℕ → Bool) → Type 0
IsFeasible labels slots x = All (Holds (on labels x)) (lines labels slots)

-- the sum of the costs of the columns that are 1
abbrev pub named_cost : Chosen → List Priced → ℕ
named_cost on [] = 0
named_cost on (c ∷ cs) = cost_where (on c.0) c.1 + named_cost on cs
