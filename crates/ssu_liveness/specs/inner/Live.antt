-- The live values at each node of a tree, from its ends up.
use Rattle.std.specs.Prelude.{◌≡◌, ℕ, List, [], ◌∷◌, ◌++◌, Option, Some, None, unwrap_or, map, max, reverse, length, slice_index_or, if◌then◌else◌}
use Rattle.nv_base.specs.Sets.{is_in, without}
use Rattle.ssu_ir.specs.Tree.{Step, Lit, Una, Bin, Clone, Read, Write, Halt, Tree, Do, If, End, Label, Node, Does, Forks, Ends, step_values, node_uses}
use Rattle.ssu_ir.specs.Points.{Names}
use Rattle.ssu_liveness.specs.LiveRows.{Kept, items_of}
use Rattle.ssu_ir.specs.declared.ssu.Ssu.{Ssu}
use Rattle.ssu_ir.specs.declared.node.SsuNode.{SsuNode}
use Rattle.ssu_ir.specs.View.{placed_of}
use Rattle.ssu_ir.specs.Slots.{Placed, EndAt, bare, node_of, Slots, slot}

-- ---- clones

-- the value of which a step makes a name a clone
abbrev pub step_source : Step → ℕ → Option ℕ
step_source (Lit x v) z = None
step_source (Una x op y) z = None
step_source (Bin x op y w) z = None
step_source (Clone xs y) z = if is_in z xs then Some y else None
step_source (Read m xs y) z = None
step_source (Write m y xs) z = None

abbrev pub node_source : Node → ℕ → Option ℕ
node_source (Does s) z = step_source s z
node_source (Forks c x y) z = None
node_source (Ends l) z = None

abbrev pub first_of : Option ℕ → Option ℕ → Option ℕ
first_of (Some x) o = Some x
first_of None o = o

-- the value of which a tree makes a name a clone
abbrev pub source_in : Tree → ℕ → Option ℕ
source_in (Do s t) z = first_of (step_source s z) (source_in t z)
source_in (If c x y t u) z = first_of (source_in t z) (source_in u z)
source_in (End l) z = None

abbrev pub source_among : List Tree → ℕ → Option ℕ
source_among [] z = None
source_among (t ∷ ts) z = first_of (source_in t z) (source_among ts z)

-- the value whose copy a name is
abbrev pub value_by : (ℕ → Option ℕ) → Names
value_by source z = unwrap_or (source z) z

-- ---- rows

-- these too, each once
abbrev pub add_all : List ℕ → List ℕ → List ℕ
add_all [] row = row
add_all (x ∷ xs) row = add_all xs (if is_in x row then row else row ++ x ∷ [])

-- what is held after a node that it doesn't define, by the rows of the nodes that follow directly
abbrev pub behind : Node → List (List ℕ) → List ℕ
behind (Does s) [] = []
behind (Does s) (r ∷ rs) = without r (step_values s)
behind (Forks c x y) [] = []
behind (Forks c x y) (a ∷ []) = []
behind (Forks c x y) (a ∷ b ∷ rs) = add_all b a
behind (Ends l) rs = []

-- the row of a node
abbrev pub row_over : Names → Node → List (List ℕ) → List ℕ
row_over of n rs = add_all (map of (node_uses n)) (behind n rs)

-- the row of a tree's root
abbrev pub root_row : Names → Tree → List ℕ
root_row of (Do s t) = row_over of (Does s) (root_row of t ∷ [])
root_row of (If c x y t u) = row_over of (Forks c x y) (root_row of t ∷ root_row of u ∷ [])
root_row of (End l) = row_over of (Ends l) []

-- the rows of its nodes in preorder
abbrev pub tree_rows : Names → Tree → List (List ℕ)
tree_rows of (Do s t) = root_row of (Do s t) ∷ tree_rows of t
tree_rows of (If c x y t u) = root_row of (If c x y t u) ∷ (tree_rows of t ++ tree_rows of u)
tree_rows of (End l) = root_row of (End l) ∷ []

-- of trees that stand in slots
abbrev pub root_rows : Names → List Placed → List (List ℕ)
root_rows of [] = []
root_rows of (p ∷ ps) = root_row of (bare p) ∷ root_rows of ps

abbrev pub all_rows : Names → List Placed → List (List ℕ)
all_rows of [] = []
all_rows of (p ∷ ps) = tree_rows of (bare p) ++ all_rows of ps

-- ---- rows as they are kept

-- rows on a stack, its top first
abbrev pub on_stack : List Kept → List (List ℕ)
on_stack vs = items_of (reverse vs)

-- the tree under the body of the label of a number
abbrev pub label_tree : Ssu → ℕ → Placed
label_tree s k = slice_index_or (placed_of s) k (EndAt 0 (Halt 0 []))

-- rows that are taken from a stack, by its top first
pub record Takes (old new : List Kept) (rows : List (List ℕ) → Type 0) (n : ℕ) : Type 0 where
  pub taken : (rs rest : List (List ℕ)) → on_stack old ≡ rs ++ rest → length rs ≡ n → rows rs × (on_stack new ≡ rest)

-- what a step makes a clone, by the numbers of slots
abbrev pub slot_source : Option SsuNode → ℕ → Option ℕ
slot_source None z = None
slot_source (Some n) z = node_source (node_of n) z

abbrev pub sources_at : Slots → List ℕ → ℕ → Option ℕ
sources_at slots [] z = None
sources_at slots (i ∷ is) z = first_of (slot_source (slot slots i) z) (sources_at slots is z)

-- the rows of labels: of each its parameters, then those of its nodes
abbrev pub labels_rows : Names → List Label → List (List ℕ)
labels_rows of [] = []
labels_rows of (l ∷ ls) = (l.params ∷ tree_rows of l.body) ++ labels_rows of ls

-- the length of the longest row
abbrev pub longest : List (List ℕ) → ℕ
longest [] = 0
longest (r ∷ rs) = max (length r) (longest rs)
