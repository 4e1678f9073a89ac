-- How often labels were entered, as the engine's visits of their starts.
use Rattle.std.specs.Prelude.{◌≡◌, ℕ, ◌<◌, List, length, slice_index}
use Rattle.nv_base.specs.Memories.{Memories}
use Rattle.uc_isa.specs.Agrees.{IsStart}
use Rattle.uc_isa.specs.Engine.{start}
use Rattle.uc_isa.specs.declared.instruction.Instr.{Instr}
use Rattle.uc_isa.specs.Visits.{stood}

-- how often a meaning has entered a label: by its arguments and the packet, the number of jumps, and the label
abbrev pub EntryCount : Type 0
EntryCount = List ℕ → Memories → ℕ → ℕ → ℕ

-- after m steps the engine has stood at the start of each label as often as the label was entered with n jumps
abbrev pub VisitedAsEntered : EntryCount → List Instr → List ℕ → List ℕ → Memories → (base m n : ℕ) → Type 0
VisitedAsEntered entered code starts args p base m n = (k : ℕ) → k < length starts → stood code (slice_index starts k) m (start args base) p ≡ entered args p n k

-- the engine comes to the start of each label as often as the label is entered: for each number of steps there is a number of jumps with the
-- same counts, and for each number of jumps a number of steps
pub record IsVisited (params : ℕ) (entered : EntryCount) (code : List Instr) (starts : List ℕ) : Type 0 where
  pub visits : (args : List ℕ) (p : Memories) (base : ℕ) → IsStart params args p base → (m : ℕ) → (n : ℕ) × VisitedAsEntered entered code starts args p base m n
  pub visits_only : (args : List ℕ) (p : Memories) (base : ℕ) → IsStart params args p base → (n : ℕ) → (m : ℕ) × VisitedAsEntered entered code starts args p base m n
