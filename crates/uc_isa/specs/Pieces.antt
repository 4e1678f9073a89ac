-- Runs through pieces of code, which may write on their way.
use Rattle.std.specs.Prelude.{◌≡◌, ℕ, ◌+◌, ◌<◌, ◌≤◌, List, ◌++◌, All, length, Option, Some, slice_get, ⊤}
use Rattle.nv_base.specs.declared.term.Mem.TheVariants.{Scratch}
use Rattle.nv_base.specs.declared.outcome.Write.{Write as WriteEvent}
use Rattle.nv_base.specs.Memories.{Memories, source_scratch}
use Rattle.nv_base.specs.Meanings.{FullOutcome, left_by, source_memories, source_writes}
use Rattle.uc_isa.specs.Agrees.{KeepsToItsWords, scratch_access}
use Rattle.uc_isa.specs.Engine.{run, after}
use Rattle.uc_isa.specs.Step.{address}
use Rattle.uc_isa.specs.Straight.{went}
use Rattle.uc_isa.specs.declared.instruction.Gpr.{Gpr}
use Rattle.uc_isa.specs.declared.instruction.Gpr.TheVariants.{B}
use Rattle.uc_isa.specs.declared.instruction.Instr.{Instr}
use Rattle.uc_isa.specs.declared.instruction.Instr.TheVariants.{Read, Write}
use Rattle.uc_isa.specs.declared.engine.Engine.{Engine}

-- where a run stands: the engine, the memories, and the writes so far
pub record Moment : Type 0 where
  pub engine : Engine
  pub packet : Memories
  pub writes : List WriteEvent

-- what at most m steps from a moment on give
abbrev pub run_from : List Instr → ℕ → Moment → FullOutcome
run_from code m a = run code m a.engine a.packet a.writes

-- n words from an offset after an address on, of which one is from 512 on: B15 has the address, and holds the base
abbrev pub IsFromBase : ℕ → Gpr → (off n : ℕ) → Engine → Type 0
IsFromBase base x off n e = source_scratch < address x e + off + n → (x ≡ B 15) × (address x e ≡ base)

-- an access to scratch that reaches a word from 512 on has its address in B15, which holds the base
abbrev pub GoesByBase : ℕ → Option Instr → Engine → Type 0
GoesByBase base (Some (Read Scratch r n x off)) e = IsFromBase base x off n e
GoesByBase base (Some (Write Scratch r n x off)) e = IsFromBase base x off n e
GoesByBase base _ e = ⊤

-- the engine's next access to scratch, if it is one to the compiler's words, goes by B15 and keeps to the code's own
abbrev pub KeepsAt : List Instr → ℕ → Engine → Type 0
KeepsAt code base e = KeepsToItsWords base (scratch_access (slice_get code e.place) e) × GoesByBase base (slice_get code e.place) e

-- so does the access after the first m steps
abbrev pub KeepsAfter : List Instr → ℕ → ℕ → Moment → Type 0
KeepsAfter code base m a = KeepsAt code base (after code m a.engine a.packet).engine

-- n steps lead from one moment to another, and each of them keeps to the code's own words of scratch
pub record Leads (code : List Instr) (base n : ℕ) (a b : Moment) : Type 0 where
  pub runs : (m : ℕ) → run_from code (n + m) a ≡ run_from code m b
  pub state : after code n a.engine a.packet ≡ went b.engine b.packet
  pub keeps : (k : ℕ) → k < n → KeepsAfter code base k a

-- a write to the 128 words of scratch from the base on
abbrev pub IsOwn : ℕ → WriteEvent → Type 0
IsOwn base w = (w.mem ≡ Scratch) × (base ≤ w.at) × (w.at + length w.words ≤ base + 128)

-- from the first moment to the second only the code's own words were written
pub record WritesOwn (base : ℕ) (a b : Moment) : Type 0 where
  pub own : List WriteEvent
  pub each : All (IsOwn base) own
  pub writes : b.writes ≡ a.writes ++ own
  pub packet : b.packet ≡ left_by own a.packet

-- a source can't tell the two moments apart
pub record SeenAlike (a b : Moment) : Type 0 where
  pub packet : source_memories b.packet ≡ source_memories a.packet
  pub writes : source_writes b.writes ≡ source_writes a.writes

-- with n or more steps the run from this moment on gives this, and each step keeps to the code's own words of scratch
pub record EndsIn (code : List Instr) (base n : ℕ) (a : Moment) (f : FullOutcome) : Type 0 where
  pub since : (m : ℕ) → run_from code (n + m) a ≡ f
  pub keeps : (m : ℕ) → KeepsAfter code base m a

-- any number of steps is inside a run that leads on, or the run ends
pub record IsCovered (code : List Instr) (base : ℕ) (a : Moment) (m : ℕ) : Type 0 where
  pub steps : ℕ
  pub later : Moment
  pub inside : m < steps
  pub leads : Leads code base steps a later
