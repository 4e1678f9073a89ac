-- What expressions cost, as it is counted.
use Rattle.std.specs.Prelude.{◌≡◌, ℕ, ◌+◌, max, Option, None, Some}
use Rattle.nv_types_table.specs.declared.cost.Cost.{Cost}
use Rattle.nv_types_table.specs.inner.Cells.{still}

-- the words of a value, the expanded size and the need
pub record IsCost (cost : Cost) (words size need : ℕ) : Type 0 where
  pub of_words : cost.words ≡ still words
  pub of_size : cost.size ≡ still size
  pub of_need : cost.need ≡ still need

abbrev pub two_costs : Cost → Cost → Cost
two_costs a b = record { words = still (a.words + b.words); size = still (a.size + b.size); need = max a.need b.need }

abbrev pub node_cost : ℕ → Cost → Cost
node_cost words parts = record { words = words; size = still (1 + words + parts.size); need = still (2 + words + parts.words + parts.need) }

-- what a call costs beside its arguments
abbrev pub cost_of_call : Option Cost → Cost
cost_of_call None = record { words = 0; size = 0; need = 0 }
cost_of_call (Some cost) = record { words = 0; size = cost.size; need = cost.need }
