-- What becomes of one packet.
use Rattle.std.specs.Prelude.{◌≡◌, ℕ, ◌*◌, ◌-◌, ◌^◌, min, List, [], ◌∷◌, length, take, drop, slice_get, slice_set, Option, Some, None, unwrap_or, MatchOption, Bool, false, ◌==◌, ◌&&◌, ◌||◌, not, nat_le, if◌then◌else◌}
use Rattle.nv_base.specs.Memories.{Memories, stored}
use Rattle.nv_base.specs.declared.term.Mem.TheVariants.{Sdram}
use Rattle.nv_base.specs.declared.outcome.Outcome.{Outcome}
use Rattle.nv_base.specs.declared.outcome.Outcome.TheVariants as outcomes
use Rattle.nv_base.specs.Meanings.{FullOutcome}
use Rattle.uc_isa.specs.Code.{CodeView}
use Rattle.uc_isa.specs.Engine.{engine}
use Rattle.nova_replay.specs.declared.plan.Plan.{Plan}
use Rattle.nova_replay.specs.declared.packet.Fate.{Fate}
use Rattle.nova_replay.specs.declared.packet.Fate.TheVariants.{Ended, Raised, Trouble}
use Rattle.nova_replay.specs.declared.counts.Cause.TheVariants as causes
use Rattle.nova_replay.specs.Frames.{quadwords, bytes_of}

-- the first scratch word that the compiler uses for itself
abbrev pub spill_base : ℕ
spill_base = 512

-- the arguments of a packet of this length: its length stands in the place that the plan tells
abbrev pub args_with : Option ℕ → List ℕ → ℕ → List ℕ
args_with None args len = args
args_with (Some place) args len = slice_set args place (min len (2 ^ 32 - 1))

-- the length of what comes out, by the words of the result
abbrev pub length_by : Option ℕ → List ℕ → ℕ → ℕ
length_by None result len = len
length_by (Some place) result len = unwrap_or (slice_get result place) len

abbrev pub is_among : ℕ → List ℕ → Bool
is_among n [] = false
is_among n (x ∷ xs) = (n == x) || is_among n xs

-- a packet that raised the exception of this number is written as it came
abbrev pub is_kept : Plan → ℕ → Bool
is_kept plan number = plan.keeps && not (is_among number plan.drops.now)

-- a run of the engine on memories that hold the packet: its outcome, and the memories that it leaves
pub record IsRun (c : CodeView) (args : List ℕ) (steps : ℕ) (put : Option Memories) (new : Memories) (outcome : Outcome) : Type 0 where
  pub begun : Memories
  pub fits : put ≡ Some begun
  pub ends : outcome ≡ (engine c args spill_base begun steps).outcome
  pub leaves : new ≡ (engine c args spill_base begun steps).packet

-- nothing runs of a packet that can't be put
abbrev pub Ran : CodeView → List ℕ → ℕ → Option Memories → Memories → Memories → Option Outcome → Type 0
Ran c args steps put old new found = MatchOption found ((put ≡ None) × (new ≡ old)) (IsRun c args steps put new)

-- what came of a packet: the memories that it leaves, its fate, and the bytes that come out
pub record Came : Type 0 where
  pub memory : Memories
  pub fate : Fate
  pub out : List ℕ

-- a number of bytes of SDRAM from a quadword on, as a packet that ended with these words
abbrev pub taken : ℕ → ℕ → List ℕ → Memories → Came
taken at count words memory =
    if nat_le count (4 * (length memory.sdram - 2 * at))
    then record { memory = memory; fate = Ended count words; out = take count (bytes_of (drop (2 * at) memory.sdram)) }
    else record { memory = memory; fate = Trouble (causes.LongOut count); out = [] }

-- a packet whose run ended so
abbrev pub came_by : Plan → ℕ → Memories → Outcome → Came
came_by plan len memory (outcomes.Ended words) = taken plan.at (length_by plan.length words len) words memory
came_by plan len memory (outcomes.Raised number words) = record { memory = memory; fate = Raised number words (is_kept plan number); out = [] }
came_by plan len memory (outcomes.Fault mem at) = record { memory = memory; fate = Trouble (causes.Fault mem at); out = [] }
came_by plan len memory outcomes.Going = record { memory = memory; fate = Trouble causes.Steps; out = [] }

-- the engine's run of a packet of this length, on memories that hold it
abbrev pub run_of : Plan → ℕ → Memories → FullOutcome
run_of plan len memory = engine plan.code.now (args_with plan.length plan.args len) spill_base memory plan.steps

abbrev pub came_of : Plan → ℕ → Memories → Option Memories → Came
came_of plan len memory None = record { memory = memory; fate = Trouble causes.LongIn; out = [] }
came_of plan len memory (Some begun) = let run = run_of plan len begun in came_by plan len run.packet run.outcome

-- a packet is put at its quadword, and runs on the memories that the packet before left
abbrev pub came : Plan → Memories → List ℕ → Came
came plan memory packet = came_of plan (length packet) memory (stored Sdram plan.at (quadwords packet) memory)
