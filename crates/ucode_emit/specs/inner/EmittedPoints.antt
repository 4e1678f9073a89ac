-- Points as the code goes over them.
use Rattle.std.specs.Prelude.{◌≡◌, ℕ, suc, ◌+◌, ◌<◌, List, [], ◌∷◌, length, reverse, map, slice_get, IsSome}
use Rattle.ssu_ir.specs.declared.ssu.Ssu.{Ssu}
use Rattle.ssu_ir.specs.Tree.{Node, Does, Forks, Ends}
use Rattle.ssu_ir.specs.Points.{Entry, At}
use Rattle.ssu_ir.specs.Slots.{slot}
use Rattle.ssu_liveness.specs.inner.PointIds.{slot_node, params_of}
use Rattle.ucode_emit.specs.declared.point_ids.EmittedPoint.{EmittedPoint}
use Rattle.ucode_emit.specs.declared.point_ids.EmittedPoint.TheVariants.{Entry as EntrySpot, Node as NodeSpot}
use Rattle.ucode_emit.specs.inner.Marks.{Mark, mark}

abbrev pub point_mark : Ssu → EmittedPoint → Mark
point_mark s (EntrySpot l) = mark (Entry l (params_of (slice_get s.labels.items l))) 0
point_mark s (NodeSpot id n) = mark (At (slot_node (slot s.nodes.slots id.0))) n

-- the point is there
abbrev pub IsEmittedPoint : Ssu → EmittedPoint → Type 0
IsEmittedPoint s (EntrySpot l) = l < length s.labels.items
IsEmittedPoint s (NodeSpot id n) = IsSome (slot s.nodes.slots id.0)

-- points on a stack, its top first
abbrev pub on_stack : Ssu → List EmittedPoint → List Mark
on_stack s point_ids = map (point_mark s) (reverse point_ids)

-- a number was the top of a stack
pub record Pops (old new : List ℕ) (c : ℕ) : Type 0 where
  pub taken : (d : ℕ) (ds : List ℕ) → reverse old ≡ d ∷ ds → (c ≡ d) × (reverse new ≡ ds)

-- the number of nodes of a node's tree takes the place of those of the trees below it; where the node forks, its first arm has so many
abbrev pub Counts : Node → List ℕ → List ℕ → ℕ → Type 0
Counts (Does s) old new n = (n ≡ 0) × ((c : ℕ) (cs : List ℕ) → reverse old ≡ c ∷ cs → reverse new ≡ suc c ∷ cs)
Counts (Forks c x y) old new n = (a b : ℕ) (cs : List ℕ) → reverse old ≡ a ∷ b ∷ cs → (n ≡ a) × (reverse new ≡ suc (a + b) ∷ cs)
Counts (Ends l) old new n = (n ≡ 0) × (reverse new ≡ 1 ∷ reverse old)

-- the points at which labels begin, the first of the points being k
abbrev pub entries_of_points : ℕ → List EmittedPoint → List ℕ
entries_of_points k [] = []
entries_of_points k (EntrySpot l ∷ point_ids) = k ∷ entries_of_points (suc k) point_ids
entries_of_points k (NodeSpot id n ∷ point_ids) = entries_of_points (suc k) point_ids
