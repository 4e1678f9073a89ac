-- Points as the emitter goes over them, and the piece of code and the parallel move of each.
use Rattle.std.specs.Prelude.{ℕ, zero, suc, ◌+◌, List, [], ◌∷◌, ◌++◌, length, None}
use Rattle.uc_isa.specs.Registers.{failing}
use Rattle.ssu_ir.specs.Tree.{Tree, Do, If, End, Label, Node, Does, Forks, Ends}
use Rattle.ssu_ir.specs.Points.{PointKind, Entry, At, nodes}
use Rattle.place_plan.specs.Plan.{Plan}
use Rattle.ucode_emit.specs.Moves.{Move}
use Rattle.ucode_emit.specs.Pieces.{Item, moved, single_moves, all_copies, step_items, fork_items, last_items, Sequences, sequence_at, entry_moves, last_moves}

-- what stands at a point, and at a fork the number of points of its first arm
pub record Mark : Type 0 where
  pub place : PointKind
  pub first_arm : ℕ

abbrev pub mark : PointKind → ℕ → Mark
mark q n = record { place = q; first_arm = n }

abbrev pub tree_marks : Tree → List Mark
tree_marks (Do s t) = mark (At (Does s)) 0 ∷ tree_marks t
tree_marks (If c x y t u) = mark (At (Forks c x y)) (nodes t) ∷ (tree_marks t ++ tree_marks u)
tree_marks (End l) = mark (At (Ends l)) 0 ∷ []

-- those of labels that are numbered from l
abbrev pub marks_from : ℕ → List Label → List Mark
marks_from l [] = []
marks_from l (x ∷ ls) = mark (Entry l x.params) 0 ∷ (tree_marks x.body ++ marks_from (suc l) ls)

abbrev pub marks : List Label → List Mark
marks labels = marks_from 0 labels

-- the piece of a point, where ms are the single moves of its parallel move
abbrev pub node_piece : List Label → Plan → ℕ → Node → ℕ → List Move → List Item
node_piece labels p k (Does s) n ms = step_items p k s
node_piece labels p k (Forks c x y) n ms = fork_items p k (failing c) (suc k + n)
node_piece labels p k (Ends l) n ms = last_items labels p k l ms

abbrev pub place_piece : List Label → Plan → ℕ → PointKind → ℕ → List Move → List Item
place_piece labels p k (Entry l params) n ms = moved (single_moves None ms ++ all_copies p k params)
place_piece labels p k (At it) n ms = node_piece labels p k it n ms

abbrev pub point_piece : List Label → Plan → ℕ → Mark → List Move → List Item
point_piece labels p k q ms = place_piece labels p k q.place q.first_arm ms

-- the pieces of points, the first of them at k
abbrev pub pieces : List Label → Plan → Sequences → ℕ → List Mark → List (List Item)
pieces labels p mss k [] = []
pieces labels p mss k (q ∷ qs) = point_piece labels p k q (sequence_at mss k) ∷ pieces labels p mss (suc k) qs

abbrev pub joined : List (List Item) → List Item
joined [] = []
joined (x ∷ xs) = x ++ joined xs

-- where each piece begins, the first of them at a place
abbrev pub begins : ℕ → List (List Item) → List ℕ
begins at [] = []
begins at (x ∷ xs) = at ∷ begins (at + length x) xs

-- the parallel move of a point
abbrev pub node_moves : Plan → ℕ → Node → List Move
node_moves p k (Does s) = []
node_moves p k (Forks c x y) = []
node_moves p k (Ends l) = last_moves p k l

abbrev pub place_moves : Plan → ℕ → PointKind → List Move
place_moves p k (Entry zero params) = entry_moves p 0 params
place_moves p k (Entry (suc l) params) = []
place_moves p k (At it) = node_moves p k it

abbrev pub marks_moves : Plan → ℕ → List Mark → List (List Move)
marks_moves p k [] = []
marks_moves p k (q ∷ qs) = place_moves p k q.place ∷ marks_moves p (suc k) qs
