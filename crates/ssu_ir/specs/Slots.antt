-- How trees lie in the slots of a slab, each node under its number.
use Rattle.std.specs.Prelude.{◌≡◌, ℕ, zero, suc, ◌+◌, Bool, true, false, ◌&&◌, cond, eqb, List, [], ◌∷◌, ◌++◌, Option, Some, None, is_some, count_by, slice_index_or}
use Rattle.nv_base.specs.declared.term.Cmp.{Cmp}
use Rattle.ssu_ir.specs.declared.node.SsuLabel.{SsuLabel}
use Rattle.ssu_ir.specs.declared.node.SsuNode.{SsuNode}
use Rattle.ssu_ir.specs.declared.node.SsuNode.TheVariants.{Lit, Una, Bin, Clone, Read, Write, If, Jump, Halt}
use Rattle.ssu_ir.specs.Tree as pure
use Rattle.ssu_ir.specs.Tree.{Tree, Do, End, Step, Last, Node, Does, Forks, Ends}

-- ---- a node of a slab

-- the node without its children
abbrev pub node_of : SsuNode → Node
node_of (Lit x v k) = Does (pure.Lit x v)
node_of (Una x op y k) = Does (pure.Una x op y)
node_of (Bin x op y z k) = Does (pure.Bin x op y z)
node_of (Clone xs y k) = Does (pure.Clone xs.items y)
node_of (Read m xs y k) = Does (pure.Read m xs.items y)
node_of (Write m y xs k) = Does (pure.Write m y xs.items)
node_of (If c x y j k) = Forks c x y
node_of (Jump l xs) = Ends (pure.Jump l xs.items)
node_of (Halt e xs) = Ends (pure.Halt e xs.items)

-- the numbers of its children
abbrev pub successors_of : SsuNode → List ℕ
successors_of (Lit x v k) = k.0 ∷ []
successors_of (Una x op y k) = k.0 ∷ []
successors_of (Bin x op y z k) = k.0 ∷ []
successors_of (Clone xs y k) = k.0 ∷ []
successors_of (Read m xs y k) = k.0 ∷ []
successors_of (Write m y xs k) = k.0 ∷ []
successors_of (If c x y j k) = j.0 ∷ k.0 ∷ []
successors_of (Jump l xs) = []
successors_of (Halt e xs) = []

-- a node before as many trees as it has children; before fewer, no tree of any use
abbrev pub over : Node → List Tree → Tree
over (Does s) (t ∷ ts) = Do s t
over (Does s) [] = End (pure.Halt 0 [])
over (Forks c x y) (t ∷ u ∷ us) = pure.If c x y t u
over (Forks c x y) (t ∷ []) = End (pure.Halt 0 [])
over (Forks c x y) [] = End (pure.Halt 0 [])
over (Ends l) ts = End l

-- ---- trees with a number at each node

pub data Placed : Type 0 where
  DoAt : (i : ℕ) (s : Step) (p : Placed) → Placed
  IfAt : (i : ℕ) (c : Cmp) (x y : ℕ) (p q : Placed) → Placed
  EndAt : (i : ℕ) (l : Last) → Placed

abbrev pub root : Placed → ℕ
root (DoAt i s p) = i
root (IfAt i c x y p q) = i
root (EndAt i l) = i

abbrev pub roots_of : List Placed → List ℕ
roots_of [] = []
roots_of (p ∷ ps) = root p ∷ roots_of ps

-- the trees below its root
abbrev pub successor_list : Placed → List Placed
successor_list (DoAt i s p) = p ∷ []
successor_list (IfAt i c x y p q) = p ∷ q ∷ []
successor_list (EndAt i l) = []

-- the tree without the numbers
abbrev pub bare : Placed → Tree
bare (DoAt i s p) = Do s (bare p)
bare (IfAt i c x y p q) = pure.If c x y (bare p) (bare q)
bare (EndAt i l) = End l

abbrev pub bare_all : List Placed → List Tree
bare_all [] = []
bare_all (p ∷ ps) = bare p ∷ bare_all ps

-- how often a number stands in a tree
abbrev pub here : ℕ → ℕ → ℕ
here i j = cond (eqb i j) 1 0

abbrev pub times : ℕ → Placed → ℕ
times i (DoAt j s p) = here i j + times i p
times i (IfAt j c x y p q) = here i j + (times i p + times i q)
times i (EndAt j l) = here i j

abbrev pub times_all : ℕ → List Placed → ℕ
times_all i [] = 0
times_all i (p ∷ ps) = times i p + times_all i ps

-- how many nodes a tree has
abbrev pub weight : Placed → ℕ
weight (DoAt i s p) = 1 + weight p
weight (IfAt i c x y p q) = 1 + (weight p + weight q)
weight (EndAt i l) = 1

abbrev pub weight_all : List Placed → ℕ
weight_all [] = 0
weight_all (p ∷ ps) = weight p + weight_all ps

-- the numbers, each before those below it, those of a first arm before those of the second
abbrev pub preorder : Placed → List ℕ
preorder (DoAt i s p) = i ∷ preorder p
preorder (IfAt i c x y p q) = i ∷ (preorder p ++ preorder q)
preorder (EndAt i l) = i ∷ []

abbrev pub preorder_all : List Placed → List ℕ
preorder_all [] = []
preorder_all (p ∷ ps) = preorder p ++ preorder_all ps

-- ---- trees that stand in slots

abbrev pub Slots : Type 0
Slots = List (Option SsuNode)

-- what is in the slot of a number
abbrev pub slot : Slots → ℕ → Option SsuNode
slot slots i = slice_index_or slots i None

-- 1 where the slot of the number has a node, else 0
abbrev pub occupied : Slots → ℕ → ℕ
occupied slots i = cond (is_some (slot slots i)) 1 0

-- how many slots have a node
abbrev pub filled : Slots → ℕ
filled slots = count_by is_some slots

-- the slot of this number has this node, over these children
pub record NodeAt (slots : Slots) (i : ℕ) (n : Node) (ks : List ℕ) : Type 0 where
  pub node : SsuNode
  pub found : slot slots i ≡ Some node
  pub is : node_of node ≡ n
  pub children : successors_of node ≡ ks

-- each node of the tree lies in the slot of its number
abbrev pub Stands : Slots → Placed → Type 0
Stands slots (DoAt i s p) = NodeAt slots i (Does s) (root p ∷ []) × Stands slots p
Stands slots (IfAt i c x y p q) = NodeAt slots i (Forks c x y) (root p ∷ root q ∷ []) × Stands slots p × Stands slots q
Stands slots (EndAt i l) = NodeAt slots i (Ends l) []

abbrev pub AllStand : Slots → List Placed → Type 0
AllStand slots [] = Unit {0}
AllStand slots (p ∷ ps) = Stands slots p × AllStand slots ps

-- ---- the tree under a number, read from the slots, at most so deep

abbrev pub place : ℕ → (ℕ → Placed) → Node → List ℕ → Placed
place i below (Does s) (k ∷ ks) = DoAt i s (below k)
place i below (Does s) [] = EndAt i (pure.Halt 0 [])
place i below (Forks c x y) (j ∷ k ∷ ks) = IfAt i c x y (below j) (below k)
place i below (Forks c x y) (j ∷ []) = EndAt i (pure.Halt 0 [])
place i below (Forks c x y) [] = EndAt i (pure.Halt 0 [])
place i below (Ends l) ks = EndAt i l

abbrev pub place_slot : ℕ → (ℕ → Placed) → Option SsuNode → Placed
place_slot i below None = EndAt i (pure.Halt 0 [])
place_slot i below (Some n) = place i below (node_of n) (successors_of n)

abbrev pub placed_at : ℕ → Slots → ℕ → Placed
placed_at zero slots i = EndAt i (pure.Halt 0 [])
placed_at (suc f) slots i = place_slot i (placed_at f slots) (slot slots i)

abbrev pub placed_all : ℕ → Slots → List ℕ → List Placed
placed_all f slots [] = []
placed_all f slots (i ∷ is) = placed_at f slots i ∷ placed_all f slots is

-- no tree is deeper than there are nodes
abbrev pub placed_in : Slots → List ℕ → List Placed
placed_in slots is = placed_all (filled slots) slots is

-- whether every number of the tree names a node that is there
abbrev pub each_number : (ℕ → Bool) → List ℕ → Bool
each_number test [] = true
each_number test (i ∷ is) = test i && each_number test is

abbrev pub is_slot : (ℕ → Bool) → Option SsuNode → Bool
is_slot below None = false
is_slot below (Some n) = each_number below (successors_of n)

abbrev pub is_there : ℕ → Slots → ℕ → Bool
is_there zero slots i = false
is_there (suc f) slots i = is_slot (is_there f slots) (slot slots i)

-- ---- the slots of a whole

-- every number names a node that is there, and every node is reached from these numbers in exactly one way
pub record Formed (slots : Slots) (is : List ℕ) : Type 0 where
  pub there : each_number (is_there (filled slots) slots) is ≡ true
  pub once : (i : ℕ) → times_all i (placed_in slots is) ≡ occupied slots i
  pub many : weight_all (placed_in slots is) ≡ filled slots

-- the numbers of the bodies
abbrev pub bodies : List SsuLabel → List ℕ
bodies [] = []
bodies (l ∷ ls) = l.body.0 ∷ bodies ls
