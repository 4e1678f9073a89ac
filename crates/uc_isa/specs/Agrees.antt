-- Code that does what a source says.
use Rattle.std.specs.Prelude.{◌≡◌, ℕ, ◌+◌, ◌<◌, ◌≤◌, ◌^◌, List, Option, Some, None, All, ⊤, length, slice_get}
use Rattle.nv_base.specs.declared.term.Mem.TheVariants.{Scratch}
use Rattle.nv_base.specs.declared.outcome.Outcome.TheVariants as outcome
use Rattle.nv_base.specs.Memories.{Memories, HasSizes, source_scratch}
use Rattle.nv_base.specs.Meanings.{Meaning, Same, seen}
use Rattle.uc_isa.specs.Code.{CodeView}
use Rattle.uc_isa.specs.Step.{address}
use Rattle.uc_isa.specs.Engine.{start, engine, after}
use Rattle.uc_isa.specs.declared.instruction.Instr.{Instr}
use Rattle.uc_isa.specs.declared.instruction.Instr.TheVariants.{Read, Write}
use Rattle.uc_isa.specs.declared.engine.Engine.{Engine}

-- the first scratch address that an instruction is to reach, and the number of words
abbrev pub scratch_access : Option Instr → Engine → Option (ℕ × ℕ)
scratch_access (Some (Read Scratch r n x off)) e = Some (address x e + off, n)
scratch_access (Some (Write Scratch r n x off)) e = Some (address x e + off, n)
scratch_access _ e = None

-- an access that reaches a word from 512 on lies within the 128 words from the base on
abbrev pub KeepsToItsWords : ℕ → Option (ℕ × ℕ) → Type 0
KeepsToItsWords base (Some access) = source_scratch < access.0 + access.1 → (base ≤ access.0) × (access.0 + access.1 ≤ base + 128)
KeepsToItsWords base None = ⊤

-- a source's meaning, by its arguments and the packet
abbrev pub SourceMeaning : Type 0
SourceMeaning = List ℕ → Memories → Meaning

-- arguments, a packet and a spill base from which a run may start
pub record IsStart (params : ℕ) (args : List ℕ) (p : Memories) (base : ℕ) : Type 0 where
  pub words : (length args ≡ params) × All (λ w. w < 2 ^ 32) args
  pub memories : HasSizes p
  pub spills : (source_scratch ≤ base) × (base ≤ 896)

-- the code does what a source with this many argument words says: it ends with the same, writes the same,
-- goes on where the source goes on, and keeps to its own words of scratch
pub record Agrees (params : ℕ) (source : SourceMeaning) (c : CodeView) : Type 0 where
  pub parameters : c.params ≡ params
  pub same : (args : List ℕ) (p : Memories) (base : ℕ) → IsStart params args p base → Same (source args p) (engine c args base p)
  pub going : (args : List ℕ) (p : Memories) (base : ℕ) → IsStart params args p base
      → (i : ℕ) → (source args p i).outcome ≡ outcome.Going → (j : ℕ) × (seen (source args p i) ≡ seen (engine c args base p j))
  pub spills : (args : List ℕ) (p : Memories) (base : ℕ) → IsStart params args p base
      → (m : ℕ) → let n = after c.list m (start args base) p in KeepsToItsWords base (scratch_access (slice_get c.list n.engine.place) n.engine)
