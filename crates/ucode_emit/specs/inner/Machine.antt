-- The machine as words in places: registers, and slots as words of scratch from the spill base on.
use Rattle.std.specs.Prelude.{◌≡◌, ℕ, suc, ◌+◌, ◌<◌, ◌≤◌, List, [], ◌∷◌, slice_index, All}
use Rattle.nv_base.specs.Memories.{HasSizes, source_scratch}
use Rattle.nv_base.specs.Meanings.{source_memories, source_writes}
use Rattle.nv_base.specs.declared.term.Mem.{Mem}
use Rattle.nv_base.specs.Meanings.{FullOutcome, seen}
use Rattle.nv_base.specs.World.{World}
use Rattle.uc_isa.specs.Engine.{IsEngine}
use Rattle.uc_isa.specs.Pieces.{Moment, Leads, EndsIn}
use Rattle.uc_isa.specs.declared.instruction.Instr.{Instr}
use Rattle.place_plan.specs.declared.place.Place.{Place}
use Rattle.place_plan.specs.declared.place.Place.TheVariants.{A, B, L, LD, S, SD, Slot}
use Rattle.place_plan.specs.Fits.{read_place}
use Rattle.ucode_emit.specs.Moves.{Move, Words, put}
use Rattle.ucode_emit.specs.Pieces.{move_instr}

-- the word in a place
abbrev pub word_at : ℕ → Moment → Words
word_at base m (A k) = slice_index m.engine.a k
word_at base m (B k) = slice_index m.engine.b k
word_at base m (L k) = slice_index m.engine.l k
word_at base m (LD k) = slice_index m.engine.ld k
word_at base m (S k) = slice_index m.engine.s k
word_at base m (SD k) = slice_index m.engine.sd k
word_at base m (Slot k) = slice_index m.packet.scratch (base + k)

-- a place that the machine has
abbrev pub IsPlace : Place → Type 0
IsPlace (A k) = k < 16
IsPlace (B k) = k < 16
IsPlace (L k) = k < 8
IsPlace (LD k) = k < 8
IsPlace (S k) = k < 8
IsPlace (SD k) = k < 8
IsPlace (Slot k) = k < 128

-- a register that an instruction can read, and one that it can write, but the spill base in B15
abbrev pub IsReadable : Place → Type 0
IsReadable (A k) = k < 16
IsReadable (B k) = k < 15
IsReadable (L k) = k < 8
IsReadable (LD k) = k < 8
IsReadable _ = ⊥

abbrev pub IsWritable : Place → Type 0
IsWritable (A k) = k < 16
IsWritable (B k) = k < 15
IsWritable (S k) = k < 8
IsWritable (SD k) = k < 8
IsWritable _ = ⊥

-- a move that is one instruction, has the spill base in B15 for nothing but the addresses of N slots, and leaves it there
pub data IsDirect (slots : ℕ) : Place → Place → Type 0 where
  read_slot : {k r : ℕ} → k < slots → r < 8 → IsDirect slots (Slot k) (L r)
  write_slot : {r k : ℕ} → r < 8 → k < slots → IsDirect slots (S r) (Slot k)
  copied : {from at : Place} → IsReadable from → IsWritable at → IsDirect slots from at

abbrev pub AreDirect : ℕ → List Move → Type 0
AreDirect slots ms = All (λ m. IsDirect slots m.0 m.1) ms

-- a moment of the engine that stands at a place of the code, with these words in its places, and looks to a source like this world
pub record Stands (base at : ℕ) (e : Words) (w : World) (m : Moment) : Type 0 where
  pub place : m.engine.place ≡ at
  pub engine : IsEngine m.engine
  pub memories : HasSizes m.packet
  pub spills : (source_scratch ≤ base) × (base ≤ 896)
  pub base_kept : word_at base m (B 15) ≡ base
  pub words : (q : Place) → IsPlace q → word_at base m q ≡ e q
  pub packet : source_memories m.packet ≡ source_memories w.packet
  pub writes : source_writes m.writes ≡ source_writes w.writes

-- the instructions of moves
abbrev pub move_instrs : List Move → List Instr
move_instrs [] = []
move_instrs (m ∷ ms) = move_instr m.0 m.1 ∷ move_instrs ms

-- the same, but the read registers of a memory from number f on have these words
abbrev pub filled : Words → Mem → ℕ → List ℕ → Words
filled e m f [] = e
filled e m f (w ∷ ws) = put (filled e m (suc f) ws) (read_place m f) w

-- n steps lead from a moment to one that stands at a place with these words, and looks like this world
pub record Led (code : List Instr) (base n : ℕ) (m : Moment) (at : ℕ) (e : Words) (w : World) : Type 0 where
  pub later : Moment
  pub leads : Leads code base n m later
  pub stands : Stands base at e w later

-- n steps are the end of the run, which a source sees as this outcome
pub record Over (code : List Instr) (base n : ℕ) (m : Moment) (f : FullOutcome) : Type 0 where
  pub last : FullOutcome
  pub ends : EndsIn code base n m last
  pub alike : seen last ≡ seen f
