-- The tree under a number of a slab.
use Rattle.std.specs.Prelude.{◌≡◌, ℕ, ◌≤◌, List, [], ◌∷◌}
use Rattle.ssu_ir.specs.declared.node.SsuLabel.{SsuLabel}
use Rattle.ssu_ir.specs.declared.pieces.NextNodes.{NextNodes}
use Rattle.ssu_ir.specs.declared.pieces.NextNodes.TheVariants.{None, One, Two}
use Rattle.ssu_ir.specs.Tree.{Tree, Label}
use Rattle.ssu_ir.specs.Slots.{Slots, Placed, root, bare, weight, Stands, filled, placed_at}

abbrev pub tree_at : Slots → ℕ → Tree
tree_at slots i = bare (placed_at (filled slots) slots i)

-- how many nodes it has
abbrev pub weight_at : Slots → ℕ → ℕ
weight_at slots i = weight (placed_at (filled slots) slots i)

-- a whole tree stands there
pub record HasTree (slots : Slots) (i : ℕ) : Type 0 where
  pub placed : Placed
  pub at_number : root placed ≡ i
  pub stands : Stands slots placed
  pub within : weight placed ≤ filled slots

abbrev pub AllHave : Slots → List ℕ → Type 0
AllHave slots [] = Unit {0}
AllHave slots (i ∷ is) = HasTree slots i × AllHave slots is

abbrev pub successor_numbers : NextNodes → List ℕ
successor_numbers None = []
successor_numbers (One k) = k.0 ∷ []
successor_numbers (Two j k) = j.0 ∷ k.0 ∷ []

-- a label over the tree under its number
abbrev pub label_of : Slots → SsuLabel → Label
label_of slots l = record { params = l.params.items; body = tree_at slots l.body.0 }
