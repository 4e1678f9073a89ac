-- What a vector pays in a label: for the columns that stand there.
use Rattle.std.specs.Prelude.{ℕ, Bool, List, filter}
use Rattle.ssu_ir.specs.Tree.{Label}
use Rattle.place_plan.specs.ByLabel.{lies_in}
use Rattle.bank_prog_form.specs.Columns.{priced}
use Rattle.bank_prog.specs.Weighted.{column_point}
use Rattle.bank_prog.specs.Meaning.{on, named_cost}

-- what the vector's columns of label l cost
abbrev pub label_price : List Label → ℕ → (ℕ → Bool) → ℕ
label_price labels l x = named_cost (on labels x) (filter (λ c. lies_in labels l (column_point labels c.0)) (priced labels))
