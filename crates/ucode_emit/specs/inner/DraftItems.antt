-- What the emitter puts down: instructions whose branches name points, and the moves of a point's operands by how these are served.
use Rattle.std.specs.Prelude.{ℕ, ◌<◌, ◌&&◌, slice_index_or, List, [], ◌∷◌, ◌++◌, Option, if◌then◌else◌}
use Rattle.uc_isa.specs.declared.instruction.Instr.{Instr}
use Rattle.uc_isa.specs.declared.instruction.Instr.TheVariants as instr
use Rattle.place_plan.specs.declared.place.Place.{Place}
use Rattle.place_plan.specs.declared.place.Place.TheVariants.{L, S, Slot}
use Rattle.place_plan.specs.declared.place.Serve.{Serve}
use Rattle.place_plan.specs.Places.{same_place}
use Rattle.place_plan.specs.Fits.{is_slot, is_read_register}
use Rattle.ucode_emit.specs.Moves.{Move, temporary}
use Rattle.ucode_emit.specs.inner.Machine.{IsReadable, IsWritable}
use Rattle.ucode_emit.specs.Pieces.{Item, Moved, Plain, Branch, move_instr, brought}

-- an item as an instruction whose branch names its point
abbrev pub draft : Item → Instr
draft (Moved from at) = move_instr from at
draft (Plain i) = i
draft (Branch c point) = instr.Br c point

-- the same, where each point has its place
abbrev pub settled : List ℕ → Instr → Instr
settled places (instr.Alu d op x y) = instr.Alu d op x y
settled places (instr.Un d op x) = instr.Un d op x
settled places (instr.Immed d v s) = instr.Immed d v s
settled places (instr.Br c point) = instr.Br c (slice_index_or places point 0)
settled places (instr.Read m r n x off) = instr.Read m r n x off
settled places (instr.Write m r n x off) = instr.Write m r n x off
settled places (instr.Halt k n) = instr.Halt k n

-- the moves that fetch an operand into the compiler's own register, from a slot into a read register, or a word into its place
abbrev pub own_fetch : Option ℕ → Serve → List Move
own_fetch l s = if same_place s.at temporary then brought l s.from s.at else []

abbrev pub slot_fetch : Serve → List Move
slot_fetch s = if is_slot s.from && is_read_register s.at then (s.from, s.at) ∷ [] else []

abbrev pub word_fetch : Option ℕ → Serve → List Move
word_fetch l s = brought l s.from s.at

abbrev pub each_fetch : (Serve → List Move) → List Serve → List Move
each_fetch f [] = []
each_fetch f (s ∷ ss) = f s ++ each_fetch f ss

abbrev pub fetches : Option ℕ → List Serve → List Move
fetches l ss = each_fetch (own_fetch l) ss ++ each_fetch slot_fetch ss

-- what a single move asks of its ends
abbrev pub CanMove : Place → Place → Type 0
CanMove (Slot k) (L r) = (k < 128) × (r < 8)
CanMove (S r) (Slot k) = (r < 8) × (k < 128)
CanMove from at = IsReadable from × IsWritable at
