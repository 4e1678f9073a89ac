-- the lines of nodes in a text, and their parts
use Rattle.std.specs.Prelude.{◌≡◌, ℕ, ◌<◌, ◌≤◌, ◌^◌, List, ◌∷◌, map, All, codes}
use Rattle.nv_lines.specs.Line.{parted}
use Rattle.zo_cert_tree.specs.Node.{Node, AreMultipliers, IsNodeText, multiplier_text, node_line}

-- the part is a multiplier whose row is lo at least
pub record IsMultiplier (lo : ℕ) (part : List ℕ) (m : ℕ × ℕ) : Type 0 where
  pub low : lo ≤ m.0
  pub high : m.0 < 2 ^ 26
  pub not_zero : 1 ≤ m.1
  pub small : m.1 < 2 ^ 32
  pub spelled : part ≡ multiplier_text m

-- the parts are these multipliers
pub record SpellMultipliers (parts : List (List ℕ)) (ms : List (ℕ × ℕ)) : Type 0 where
  pub multipliers : AreMultipliers ms
  pub small : All (λ m. m.1 < 2 ^ 32) ms
  pub spelled : parts ≡ map multiplier_text ms

-- a node
pub record IsNodeLine (line : List ℕ) : Type 0 where
  pub node : Node
  pub fits : IsNodeText node
  pub spelled : line ≡ node_line node

-- a clash
pub record IsClashLine (line : List ℕ) : Type 0 where
  pub rows : List (ℕ × ℕ)
  pub fits : AreMultipliers rows
  pub small : All (λ m. m.1 < 2 ^ 32) rows
  pub spelled : line ≡ parted (codes "k" ∷ map multiplier_text rows)
