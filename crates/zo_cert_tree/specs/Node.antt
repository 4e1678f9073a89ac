-- the nodes of a tree: what they contain, their limits and their lines in a text
use Rattle.std.specs.Prelude.{ℕ, ◌<◌, ◌≤◌, ◌^◌, List, ◌∷◌, ◌++◌, [], map, All, codes, decimal}
use Rattle.nv_lines.specs.Line.{parted}
use Rattle.zo_model.specs.Program.{Rise}
use Rattle.zo_cert_tree.specs.declared.cert.CertNode.{CertNode}
use Rattle.zo_cert_tree.specs.declared.cert.CertNode.TheVariants.{Branch, Bound, Clash, Left}

-- a node with its rows as lists
pub data Node : Type 0 where
  branch_on : ℕ → Node
  bound_by : ℕ → List (ℕ × ℕ) → Node
  clash_of : List (ℕ × ℕ) → Node
  left_open : Node

-- what a node contains
abbrev pub node_contents : CertNode → Node
node_contents (Branch j) = branch_on j
node_contents (Bound d ms) = bound_by d ms.items
node_contents (Clash ms) = clash_of ms.items
node_contents Left = left_open

-- multipliers in a text: rows that rise, each with a multiplier of 1 at least
pub record AreMultipliers (ms : List (ℕ × ℕ)) : Type 0 where
  pub rise : Rise 0 (2 ^ 26) ms
  pub not_zero : All (λ m. 1 ≤ m.1) ms

-- a node in a text
abbrev pub IsNode : CertNode → Type 0
IsNode (Branch j) = j < 2 ^ 26
IsNode (Bound d ms) = (1 ≤ d) × AreMultipliers ms.items
IsNode (Clash ms) = AreMultipliers ms.items
IsNode Left = Unit {0}

-- a node that keeps the limits
abbrev pub IsNodeText : Node → Type 0
IsNodeText (branch_on j) = j < 2 ^ 26
IsNodeText (bound_by d ms) = (1 ≤ d) × (d < 2 ^ 32) × AreMultipliers ms × All (λ m. m.1 < 2 ^ 32) ms
IsNodeText (clash_of ms) = AreMultipliers ms × All (λ m. m.1 < 2 ^ 32) ms
IsNodeText left_open = Unit {0}

-- a row, a colon, its multiplier
abbrev pub multiplier_text : ℕ × ℕ → List ℕ
multiplier_text m = decimal m.0 ++ 58 ∷ decimal m.1

-- a node: a branch and its column, a bound with its denominator and multipliers, a clash with its multipliers, or one
-- that is left
abbrev pub node_line : Node → List ℕ
node_line (branch_on j) = parted (codes "b" ∷ decimal j ∷ [])
node_line (bound_by d ms) = parted (codes "d" ∷ decimal d ∷ map multiplier_text ms)
node_line (clash_of ms) = parted (codes "k" ∷ map multiplier_text ms)
node_line left_open = codes "o"
