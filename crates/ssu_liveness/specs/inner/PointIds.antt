-- Points as the code goes over them.
use Rattle.std.specs.Prelude.{ℕ, ◌<◌, List, [], ◌∷◌, ◌++◌, Option, Some, None, IsSome, length, slice_get}
use Rattle.ssu_ir.specs.declared.node.SsuLabel.{SsuLabel}
use Rattle.ssu_ir.specs.declared.node.SsuNode.{SsuNode}
use Rattle.ssu_ir.specs.declared.ssu.Ssu.{Ssu}
use Rattle.ssu_ir.specs.Tree as pure
use Rattle.ssu_ir.specs.Tree.{Tree, Do, If, End, Label, Node, Does, Forks, Ends}
use Rattle.ssu_ir.specs.Points.{PointKind, Entry, At}
use Rattle.ssu_ir.specs.Slots.{Slots, slot, node_of}
use Rattle.ssu_liveness.specs.declared.point_ids.PointId.{PointId}
use Rattle.ssu_liveness.specs.declared.point_ids.PointId.TheVariants.{Entry as EntrySpot, Node as NodeSpot}

-- the node in a slot
abbrev pub slot_node : Option SsuNode → Node
slot_node None = Ends (pure.Halt 0 [])
slot_node (Some n) = node_of n

abbrev pub params_of : Option SsuLabel → List ℕ
params_of None = []
params_of (Some l) = l.params.items

-- the point's place
abbrev pub kind_of_point : Ssu → PointId → PointKind
kind_of_point s (EntrySpot k) = Entry k (params_of (slice_get s.labels.items k))
kind_of_point s (NodeSpot id) = At (slot_node (slot s.nodes.slots id.0))

-- the places of nodes by their numbers
abbrev pub node_places : Slots → List ℕ → List PointKind
node_places slots [] = []
node_places slots (i ∷ is) = At (slot_node (slot slots i)) ∷ node_places slots is

-- the places of a tree in preorder
abbrev pub tree_places : Tree → List PointKind
tree_places (Do s t) = At (Does s) ∷ tree_places t
tree_places (If c x y t u) = At (Forks c x y) ∷ (tree_places t ++ tree_places u)
tree_places (End l) = At (Ends l) ∷ []

-- the point is there
abbrev pub IsPointId : Ssu → PointId → Type 0
IsPointId s (EntrySpot k) = k < length s.labels.items
IsPointId s (NodeSpot id) = IsSome (slot s.nodes.slots id.0)
