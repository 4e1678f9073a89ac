-- What the emitter knows of the points before it puts code down, and how far it has come.
use Rattle.std.specs.Prelude.{◌≡◌, ℕ, zero, suc, ◌+◌, ◌≤◌, ⊤, All, List, [], ◌++◌, length, map, take, None, slice_index_or}
use Rattle.std.specs.declared.vec.Vec.{Vec}
use Rattle.std.specs.declared.alloc.Global.{Global}
use Rattle.uc_isa.specs.declared.instruction.Instr.{Instr}
use Rattle.ssu_ir.specs.declared.ssu.Ssu.{Ssu}
use Rattle.ssu_ir.specs.Tree.{Label, Jump, Halt, Node, Does, Forks, Ends}
use Rattle.ssu_ir.specs.Points.{PointKind, Entry, At}
use Rattle.ssu_ir.specs.View.{labels_view}
use Rattle.place_plan.specs.declared.place.Serve.{Serve}
use Rattle.place_plan.specs.Plan.{Plan}
use Rattle.ucode_emit.specs.Moves.{Move}
use Rattle.ucode_emit.specs.declared.cursor.Cursor.{Cursor}
use Rattle.ucode_emit.specs.declared.walk.Points.{Points}
use Rattle.ucode_emit.specs.Pieces.{Item, moved, single_moves, all_copies, entry_moves, Sequences, parallel_moves}
use Rattle.ucode_emit.specs.Emits.{AreSequences, entries_from}
use Rattle.ucode_emit.specs.inner.DraftItems.{draft}
use Rattle.ucode_emit.specs.inner.EmitContext.{ends, CanAll, CanNode, node_items}
use Rattle.ucode_emit.specs.inner.Marks.{Mark, mark, marks, pieces, joined, begins}
use Rattle.ucode_emit.specs.inner.EmittedPoints.{point_mark, IsEmittedPoint}
use Rattle.ucode_emit.specs.inner.Cursors.{IsCut, AreServed}

-- ---- parallel moves

-- the parallel move of a point whose operands are served so
abbrev pub node_ends : List Serve → Node → List Move
node_ends ss (Does s) = []
node_ends ss (Forks c x y) = []
node_ends ss (Ends l) = ends ss

abbrev pub place_ends : Plan → List Serve → PointKind → List Move
place_ends p ss (Entry zero params) = entry_moves p 0 params
place_ends p ss (Entry (suc l) params) = []
place_ends p ss (At n) = node_ends ss n

-- label 0 has at most 8 parameters
abbrev pub HasFew : PointKind → Type 0
HasFew (Entry zero params) = length params ≤ 8
HasFew (Entry (suc l) params) = ⊤
HasFew (At n) = ⊤

abbrev pub moves_of : List (Vec Move Global) → Sequences
moves_of vs = map (λ v. v.items) vs

-- ---- points

abbrev pub mark_at : List Label → ℕ → Mark
mark_at labels k = slice_index_or (marks labels) k (mark (Entry 0 []) 0)

-- the points, where labels begin, and the single moves of each point
pub record AreKnown (s : Ssu) (p : Plan) (points : Points) : Type 0 where
  pub point_ids : map (point_mark s) points.point_ids.items ≡ marks (labels_view s)
  pub there : All (IsEmittedPoint s) points.point_ids.items
  pub entries : points.entries.items ≡ entries_from 0 (labels_view s)
  pub sequences : AreSequences (parallel_moves p (labels_view s)) (moves_of points.sequences.items)

-- the lists of a placement are done up to point k, after which these points come
pub record IsAt (p : Plan) (k : ℕ) (qs : List Mark) (c : Cursor) : Type 0 where
  pub serves : AreServed p.serves c.serves k qs
  pub firsts : IsCut (λ f. f.point) p.firsts c.firsts k
  pub passes : IsCut (λ q. q.point) p.passes c.passes k

-- ---- pieces

-- the point to which a point branches, 0 where it does not
abbrev pub node_branch : ℕ → ℕ → List ℕ → Node → ℕ
node_branch k arm entries (Does s) = 0
node_branch k arm entries (Forks c x y) = suc k + arm
node_branch k arm entries (Ends (Jump l xs)) = slice_index_or entries l 0
node_branch k arm entries (Ends (Halt e xs)) = 0

abbrev pub place_branch : ℕ → ℕ → List ℕ → PointKind → ℕ
place_branch k arm entries (Entry l params) = 0
place_branch k arm entries (At n) = node_branch k arm entries n

-- the piece of a point that branches to this point if it branches, and what is asked of its moves
abbrev pub place_items : Plan → ℕ → ℕ → List Move → PointKind → List Item
place_items p k to ms (Entry l params) = moved (single_moves None ms ++ all_copies p k params)
place_items p k to ms (At n) = node_items p k to ms n

abbrev pub CanPlace : Plan → ℕ → List Move → PointKind → Type 0
CanPlace p k ms (Entry l params) = CanAll (single_moves None ms ++ all_copies p k params)
CanPlace p k ms (At n) = CanNode p k ms n

-- the pieces of the points below k
abbrev pub pieces_below : List Label → Plan → Sequences → ℕ → List (List Item)
pieces_below labels p mss k = pieces labels p mss 0 (take k (marks labels))

-- the code of the points below k, and where each of them begins
pub record IsDrafted (labels : List Label) (p : Plan) (mss : Sequences) (k : ℕ) (code : List Instr) (places : List ℕ) : Type 0 where
  pub code_ : code ≡ map draft (joined (pieces_below labels p mss k))
  pub places_ : places ≡ begins 0 (pieces_below labels p mss k)
