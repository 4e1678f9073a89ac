-- How much a form holds at once, how large it is, and how long its code can get.
use Rattle.std.specs.Prelude.{ℕ, ◌+◌, ◌*◌, max, List, [], ◌∷◌, length}
use Rattle.ssu_ir.specs.Tree.{Step, Lit, Una, Bin, Clone, Read, Write, Last, Jump, Halt, Tree, Do, If, End, Label, Node, Does, Forks, Ends, node_values, node_uses}
use Rattle.ssu_ir.specs.Points.{Point, points, place_values}

-- ---- the greatest number of live values at a point

abbrev pub most_held : List Point → ℕ
most_held [] = 0
most_held (p ∷ ps) = max (length p.before) (most_held ps)

abbrev pub peak : List Label → ℕ
peak labels = most_held (points labels)

-- ---- the number of points, values and uses together

abbrev pub node_size : Node → ℕ
node_size n = 1 + (length (node_values n) + length (node_uses n))

abbrev pub tree_size : Tree → ℕ
tree_size (Do s t) = node_size (Does s) + tree_size t
tree_size (If c x y t u) = node_size (Forks c x y) + (tree_size t + tree_size u)
tree_size (End l) = node_size (Ends l)

abbrev pub size : List Label → ℕ
size [] = 0
size (l ∷ ls) = 1 + (length l.params + tree_size l.body) + size ls

-- ---- an upper bound for the instructions of its code: those of each node itself, and those that may be wanted to put each value that
-- it defines into its places and to bring each word that it uses

abbrev pub step_code : Step → ℕ
step_code (Lit x v) = 1 + 3
step_code (Una x op y) = 1 + (3 + 2)
step_code (Bin x op y z) = 1 + (3 + 2 * 2)
step_code (Clone xs y) = 0
step_code (Read m xs y) = 1 + (4 * length xs + 2)
step_code (Write m y xs) = 1 + (2 + 2 * length xs)

abbrev pub last_code : Last → ℕ
last_code (Jump l xs) = 1 + 5 * length xs
last_code (Halt e xs) = 1 + 3 * length xs

abbrev pub tree_code : Tree → ℕ
tree_code (Do s t) = step_code s + tree_code t
tree_code (If c x y t u) = 2 + 2 * 2 + (tree_code t + tree_code u)
tree_code (End l) = last_code l

abbrev pub labels_code : List Label → ℕ
labels_code [] = 0
labels_code (l ∷ ls) = 3 * length l.params + tree_code l.body + labels_code ls

-- the parameters of label 0 come in registers, and are moved to their places first
abbrev pub entry_code : List Label → ℕ
entry_code [] = 0
entry_code (l ∷ ls) = 3 * length l.params

abbrev pub code_bound : List Label → ℕ
code_bound labels = labels_code labels + entry_code labels

-- ---- over points

-- a point with the values that it defines and its uses
abbrev pub point_size : Point → ℕ
point_size p = 1 + (length (place_values p.place) + length p.uses)

abbrev pub total : (Point → ℕ) → List Point → ℕ
total f [] = 0
total f (p ∷ ps) = f p + total f ps
