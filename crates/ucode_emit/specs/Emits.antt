-- When code is what a form emits under a placement: the pieces of its points in order, where the moves that a point does all at once are done one by one.
use Rattle.std.specs.Prelude.{◌≡◌, ◌≢◌, ℕ, suc, ◌+◌, ◌*◌, ◌≤◌, List, [], ◌∷◌, length, map, Some, slice_get, slice_index_or}
use Rattle.uc_isa.specs.declared.instruction.Instr.{Instr}
use Rattle.ssu_ir.specs.Tree.{Label}
use Rattle.ssu_ir.specs.Points.{nodes}
use Rattle.place_plan.specs.declared.place.Place.{Place}
use Rattle.place_plan.specs.Plan.{Plan}
use Rattle.ucode_emit.specs.Moves.{Move, Words, all_at_once, one_by_one, temporary, StandFor}
use Rattle.ucode_emit.specs.Pieces.{Sequences, instr_of, items, starts, parallel_moves}

-- single moves that do what a parallel move does: each of its moves whose ends are two places, some by way of the compiler's own
-- register; they are at most three for two
pub record IsSequence (moves ms : List Move) : Type 0 where
  pub effect : (e : Words) (q : Place) → q ≢ temporary → one_by_one ms e q ≡ all_at_once moves e q
  pub kinds : StandFor moves ms
  pub few : 2 * length ms ≤ 3 * length moves

-- each point's single moves do its parallel move
pub record AreSequences (all : List (List Move)) (mss : List (List Move)) : Type 0 where
  pub as_many : length mss ≡ length all
  pub each : (k : ℕ) (moves ms : List Move) → slice_get all k ≡ Some moves → slice_get mss k ≡ Some ms → IsSequence moves ms

-- the points at which labels begin, the first of them at k
abbrev pub entries_from : ℕ → List Label → List ℕ
entries_from k [] = []
entries_from k (x ∷ ls) = k ∷ entries_from (suc k + nodes x.body) ls

-- where each label begins: at its first point
abbrev pub label_starts : List Label → Plan → Sequences → List ℕ
label_starts labels p mss = map (λ k. slice_index_or (starts labels p mss) k 0) (entries_from 0 labels)

-- for some single moves that do the parallel moves, the code is the pieces of the points, whose branches go to the places of points, and the
-- labels begin at these places
pub record AreEmitted (labels : List Label) (p : Plan) (code : List Instr) (begins : List ℕ) : Type 0 where
  pub mss : Sequences
  pub sequences : AreSequences (parallel_moves p labels) mss
  pub code_ : code ≡ map (instr_of (starts labels p mss)) (items labels p mss)
  pub begins_ : begins ≡ label_starts labels p mss
