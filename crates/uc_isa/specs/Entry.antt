-- What code assumes of the engine on which it is started, and which words of scratch it reaches from there.
use Rattle.std.specs.Prelude.{◌≡◌, ℕ, ◌+◌, ◌<◌, ◌≤◌, List, [], Option, Some, None, length, slice_get, slice_index, ⊤}
use Rattle.nv_base.specs.Memories.{Memories, source_scratch}
use Rattle.nv_base.specs.Meanings.{Same}
use Rattle.uc_isa.specs.Agrees.{IsStart, SourceMeaning, scratch_access}
use Rattle.uc_isa.specs.Engine.{IsEngine, run, after}
use Rattle.uc_isa.specs.declared.instruction.Instr.{Instr}
use Rattle.uc_isa.specs.declared.engine.Engine.{Engine}

-- the engine stands at the first place, with the arguments in A0 and on and the spill base in B15; its other registers and its flags may hold
-- anything
pub record IsEntry (args : List ℕ) (base : ℕ) (e : Engine) : Type 0 where
  pub engine : IsEngine e
  pub place : e.place ≡ 0
  pub arguments : (i : ℕ) → i < length args → slice_index e.a i ≡ slice_index args i
  pub spills : slice_index e.b 15 ≡ base

-- an access that reaches a word of scratch from 512 on lies within N words from the base on
abbrev pub KeepsWithin : (base n : ℕ) → Option (ℕ × ℕ) → Type 0
KeepsWithin base n (Some access) = source_scratch < access.0 + access.1 → (base ≤ access.0) × (access.0 + access.1 ≤ base + n)
KeepsWithin base n None = ⊤

-- from each such engine code does what a source says, and keeps to its slots, of which there are so many
pub record AssumesNoMore (params : ℕ) (source : SourceMeaning) (slots : ℕ) (code : List Instr) : Type 0 where
  pub same : (args : List ℕ) (p : Memories) (base : ℕ) (e : Engine) → IsStart params args p base → IsEntry args base e → Same (source args p) (λ m. run code m e p [])
  pub keeps : (args : List ℕ) (p : Memories) (base : ℕ) (e : Engine) → IsStart params args p base → IsEntry args base e
      → (m : ℕ) → let n = after code m e p in KeepsWithin base slots (scratch_access (slice_get code n.engine.place) n.engine)
