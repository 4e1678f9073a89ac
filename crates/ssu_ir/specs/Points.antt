-- Points of a form, and the live values at each. The points are, for each label in order, its entry and then its nodes in
-- preorder, a first arm before the second; a point's number is its place in the list, from 0.
use Rattle.std.specs.Prelude.{◌≡◌, true, ℕ, suc, ◌+◌, List, [], ◌∷◌, ◌++◌, map, filter, if◌then◌else◌}
use Rattle.nv_base.specs.Sets.{is_in, without, all_different, Within}
use Rattle.ssu_ir.specs.Tree.{Step, Lit, Una, Bin, Clone, Read, Write, Tree, Do, If, End, Label, Node, Does, Forks, Ends, node_values, step_values, step_uses, last_uses}

-- ---- copies: a value's copies are itself and its clones

-- of each name the value whose copy it is
abbrev pub Names : Type 0
Names = ℕ → ℕ

-- where a label begins, each name is its own value
abbrev pub own : Names
own x = x

-- after a step: clones are copies of what their source is a copy of
abbrev pub names_after : Names → Step → Names
names_after of (Lit x v) = of
names_after of (Una x op y) = of
names_after of (Bin x op y z) = of
names_after of (Clone xs y) = λ z. if is_in z xs then of y else of z
names_after of (Read m xs y) = of
names_after of (Write m y xs) = of

-- ---- live values

-- the values of which a copy is used in a tree, by nodes other than `Clone`
abbrev pub used : Names → Tree → List ℕ
used of (Do s t) = map of (step_uses s) ++ used (names_after of s) t
used of (If c x y t u) = of x ∷ of y ∷ (used of t ++ used of u)
used of (End l) = map of (last_uses l)

-- those of these values of which a copy is used in a tree
abbrev pub live_of : Names → List ℕ → Tree → List ℕ
live_of of above t = filter (λ x. is_in x (used of t)) above

-- those of either list, each once where it is once in each
abbrev pub union : List ℕ → List ℕ → List ℕ
union xs ys = xs ++ without ys xs

-- ---- points

-- where a label begins, by its number and parameters, or a node
pub data PointKind : Type 0 where
  Entry : (l : ℕ) (params : List ℕ) → PointKind
  At : (n : Node) → PointKind

-- the values that it defines
abbrev pub place_values : PointKind → List ℕ
place_values (Entry l params) = params
place_values (At n) = node_values n

pub record Point : Type 0 where
  pub place : PointKind
  -- the values defined above it on its path, in order
  pub above : List ℕ
  -- for each of its uses, in the order of the operands, the value whose copy it is
  pub uses : List ℕ
  -- how many points lie below it: they follow it in the list
  pub below : ℕ
  -- the live values at it: those above it of which a copy is used here or below; at an entry its parameters
  pub before : List ℕ
  -- the live values at one of the nodes that follow directly
  pub after : List ℕ

-- how many nodes a tree has
abbrev pub nodes : Tree → ℕ
nodes (Do s t) = 1 + nodes t
nodes (If c x y t u) = 1 + (nodes t + nodes u)
nodes (End l) = 1

-- a node over trees of N nodes
abbrev pub point : Names → Node → List ℕ → List ℕ → ℕ → List ℕ → List ℕ → Point
point of n above uses below before after = record { place = At n; above = above; uses = map of uses; below = below; before = before; after = after }

-- the points of a tree, where these values are defined above it
abbrev pub tree_points : Names → List ℕ → Tree → List Point
tree_points of above (Do s t) =
    point of (Does s) above (step_uses s) (nodes t) (live_of of above (Do s t)) (live_of (names_after of s) (above ++ step_values s) t)
    ∷ tree_points (names_after of s) (above ++ step_values s) t
tree_points of above (If c x y t u) =
    point of (Forks c x y) above (x ∷ y ∷ []) (nodes t + nodes u) (live_of of above (If c x y t u)) (union (live_of of above t) (live_of of above u))
    ∷ (tree_points of above t ++ tree_points of above u)
tree_points of above (End l) = point of (Ends l) above (last_uses l) 0 (live_of of above (End l)) [] ∷ []

abbrev pub label_points : ℕ → Label → List Point
label_points k l =
    record { place = Entry k l.params; above = []; uses = []; below = nodes l.body; before = l.params; after = live_of own l.params l.body }
    ∷ tree_points own l.params l.body

-- the points of labels that are numbered from k
abbrev pub points_from : ℕ → List Label → List Point
points_from k [] = []
points_from k (l ∷ ls) = label_points k l ++ points_from (suc k) ls

abbrev pub points : List Label → List Point
points labels = points_from 0 labels

-- what is said of a point: what it uses is held, no value is held twice, and what is held after it was held or is defined here
pub record IsLive (p : Point) : Type 0 where
  pub uses : Within p.uses p.before
  pub different : all_different p.before ≡ true
  pub later : Within p.after (p.before ++ place_values p.place)
