-- Points by their numbers, and of each serve the use that it is for, as the test of a placement finds them.
use Rattle.std.specs.Prelude.{◌≡◌, ℕ, zero, suc, ◌<◌, Bool, ◌||◌, List, [], Option, Some, None, map, length, slice_index_or, slice_get}
use Rattle.nv_base.specs.declared.term.Mem.{Mem}
use Rattle.nv_base.specs.Sets.{is_in}
use Rattle.ssu_ir.specs.declared.node.SsuLabel.{SsuLabel}
use Rattle.ssu_ir.specs.declared.node.SsuNode.{SsuNode}
use Rattle.ssu_ir.specs.declared.ssu.Ssu.{Ssu}
use Rattle.ssu_ir.specs.Tree.{Step, Lit, Una, Bin, Clone, Read, Write, Last, Jump, Halt, Tree, Label, Node, Does, Forks, Ends, node_uses}
use Rattle.ssu_ir.specs.Points.{Names, PointKind, Entry, At, Point, tree_points, points, nodes}
use Rattle.ssu_ir.specs.Slots.{Slots, slot, node_of}
use Rattle.ssu_ir.specs.View.{labels_view}
use Rattle.ssu_ir.specs.inner.Under.{HasTree, tree_at}
use Rattle.place_plan.specs.declared.place.Serve.{Serve}
use Rattle.ssu_liveness.specs.declared.point_ids.PointId.{PointId}
use Rattle.ssu_liveness.specs.declared.point_ids.PointId.TheVariants.{Entry as EntrySpot, Node as NodeSpot}
use Rattle.place_plan.specs.Uses.{Role, Operand, Address, Written, Argument, Ending, Use}
use Rattle.ssu_liveness.specs.inner.Live.{value_by, source_among}

-- ---- nodes

-- the address, then the words
abbrev pub write_role : Mem → ℕ → Role
write_role m zero = Address
write_role m (suc i) = Written m i

abbrev pub step_role : Step → ℕ → Role
step_role (Lit x v) i = Operand
step_role (Una x op y) i = Operand
step_role (Bin x op y z) i = Operand
step_role (Clone xs y) i = Operand
step_role (Read m xs y) i = Address
step_role (Write m y xs) i = write_role m i

abbrev pub last_role : Last → ℕ → Role
last_role (Jump l xs) i = Argument l i
last_role (Halt e xs) i = Ending i

-- what the use of an operand is
abbrev pub node_role : Node → ℕ → Role
node_role (Does s) i = step_role s i
node_role (Forks c x y) i = Operand
node_role (Ends l) i = last_role l i

-- ---- points

abbrev pub nowhere : Point
nowhere = record { place = Entry 0 []; above = []; uses = []; below = 0; before = []; after = [] }

abbrev pub point_at : List Label → ℕ → Point
point_at labels k = slice_index_or (points labels) k nowhere

abbrev pub place_at : List Label → ℕ → PointKind
place_at labels k = (point_at labels k).place

abbrev pub below_at : List Label → ℕ → ℕ
below_at labels k = (point_at labels k).below

-- the node at a point that isn't an entry
abbrev pub place_node : PointKind → Option Node
place_node (Entry l ps) = None
place_node (At n) = Some n

-- a point that is the node of a number, over the tree that stands there
pub record IsNode (slots : Slots) (i : ℕ) (q : Point) : Type 0 where
  pub node : (n : SsuNode) → slot slots i ≡ Some n → q.place ≡ At (node_of n)
  pub below : suc q.below ≡ nodes (tree_at slots i)

-- the point of a number in a list is that node
pub record HasNode (slots : Slots) (i : ℕ) (k : ℕ) (qs : List Point) : Type 0 where
  pub point : Point
  pub found : slice_get qs k ≡ Some point
  pub is : IsNode slots i point

-- point k of a tree is that node, whatever stands above the tree
pub record IsNodeAt (slots : Slots) (t : Tree) (k i : ℕ) : Type 0 where
  pub has : HasTree slots i
  pub within : k < nodes t
  pub there : (of : Names) (above : List ℕ) → HasNode slots i k (tree_points of above t)

-- the point of a number in a list has a value above it where these values have it or the test says so
pub record HasAbove (x : ℕ) (test : Bool) (above : List ℕ) (k : ℕ) (qs : List Point) : Type 0 where
  pub point : Point
  pub found : slice_get qs k ≡ Some point
  pub is : is_in x point.above ≡ (is_in x above || test)

-- the same of point k of a tree, whatever stands above the tree
pub record IsAboveAt (t : Tree) (k x : ℕ) (test : Bool) : Type 0 where
  pub within : k < nodes t
  pub there : (of : Names) (above : List ℕ) → HasAbove x test above k (tree_points of above t)

-- a point that is where a label begins
pub record IsEntry (s : Ssu) (l : ℕ) (q : Point) : Type 0 where
  pub label : SsuLabel
  pub found : slice_get s.labels.items l ≡ Some label
  pub place : q.place ≡ Entry l label.params.items
  pub below : q.below ≡ nodes (tree_at s.nodes.slots label.body.0)
  pub has : HasTree s.nodes.slots label.body.0

abbrev pub IsIdOfPoint : Ssu → Point → PointId → Type 0
IsIdOfPoint s q (EntrySpot l) = IsEntry s l q
IsIdOfPoint s q (NodeSpot id) = HasTree s.nodes.slots id.0 × IsNode s.nodes.slots id.0 q

pub record IsIdOfPointAt (s : Ssu) (k : ℕ) (x : PointId) : Type 0 where
  pub within : k < length (points (labels_view s))
  pub is : IsIdOfPoint s (point_at (labels_view s) k) x

-- ---- uses

-- the value whose copy a name is
abbrev pub value_in : List Label → ℕ → ℕ
value_in labels z = value_by (source_among (map (λ l. l.body) labels)) z

abbrev pub operand_name : Option Node → ℕ → ℕ
operand_name None i = 0
operand_name (Some n) i = slice_index_or (node_uses n) i 0

abbrev pub operand_role : Option Node → ℕ → Role
operand_role None i = Operand
operand_role (Some n) i = node_role n i

-- the use that a serve is for
abbrev pub found_use : List Label → Serve → Use
found_use labels s = record {
  point = s.point;
  operand = s.operand;
  value = value_in labels (operand_name (place_node (place_at labels s.point)) s.operand);
  role = operand_role (place_node (place_at labels s.point)) s.operand;
}
