-- What a walk over a slab has still to do: the trees under the numbers on a stack.
use Rattle.std.specs.Prelude.{◌≡◌, ℕ, List, [], ◌∷◌, reverse}
use Rattle.ssu_ir.specs.declared.node.NodeId.{NodeId}
use Rattle.ssu_ir.specs.Slots.{Slots, Placed, AllStand, roots_of}

abbrev pub nums : List NodeId → List ℕ
nums [] = []
nums (x ∷ xs) = x.0 ∷ nums xs

-- the numbers on a stack, its top first
abbrev pub tops : List NodeId → List ℕ
tops xs = nums (reverse xs)

-- these numbers are the roots of trees that stand in the slots
pub record Todo (slots : Slots) (work : List ℕ) : Type 0 where
  pub left : List Placed
  pub at_numbers : roots_of left ≡ work
  pub stand : AllStand slots left
