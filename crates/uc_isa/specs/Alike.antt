-- Two engines that can't be told apart by some of what they hold, and two codes of which each does what the other does.
use Rattle.std.specs.Prelude.{◌≡◌, ℕ, ◌<◌, ◌⊎◌, true, None, Some, List, length, slice_get, slice_index}
use Rattle.nv_base.specs.declared.outcome.Write.{Write as WriteEvent}
use Rattle.nv_base.specs.Memories.{Memories, HasSizes}
use Rattle.uc_isa.specs.Step.{Next, EndsRun, step}
use Rattle.uc_isa.specs.Engine.{IsEngine, run, after}
use Rattle.uc_isa.specs.declared.instruction.Instr.{Instr}
use Rattle.uc_isa.specs.declared.engine.Engine.{Engine}
use Rattle.uc_isa.specs.Resources.{Resource, IsResource, value, reads, writes, IsNext}
use Rattle.uc_isa.specs.Visits.{access, access_at, stood}

-- the two have the same in all that an instruction reads
abbrev pub ReadAlike : Instr → Engine → Engine → Type 0
ReadAlike i e e' = (s : Resource) → IsResource s → reads i s ≡ true → value s e ≡ value s e'

-- a step that ended the run left engine and memories as they were, and any other one leads to a next place
abbrev pub GoesOn : Instr → Engine → Memories → Next → Type 0
GoesOn i e p n = (EndsRun n.stepped × (n.engine ≡ e) × (n.packet ≡ p)) ⊎ ((¬ EndsRun n.stepped) × IsNext i e.place n.engine.place)

-- the instruction does the same to both: it is the same step, and leads to the same place and memories with the same in all
-- that it writes
pub record DoesAlike (i : Instr) (e e' : Engine) (n n' : Next) : Type 0 where
  pub stepped : n.stepped ≡ n'.stepped
  pub packet : n.packet ≡ n'.packet
  pub place : n.engine.place ≡ n'.engine.place
  pub access : access (Some i) e ≡ access (Some i) e'
  pub written : ¬ EndsRun n.stepped → (s : Resource) → IsResource s → writes i s ≡ true → value s n.engine ≡ value s n'.engine

-- what is seen of two steps is the same
pub record StepsAlike (code code' : List Instr) (p : Memories) (e e' : Engine) : Type 0 where
  pub place : e.place ≡ e'.place
  pub stepped : (step code e p).stepped ≡ (step code' e' p).stepped
  pub packet : (step code e p).packet ≡ (step code' e' p).packet
  pub access : access (slice_get code e.place) e ≡ access (slice_get code' e'.place) e'

-- after each number of steps the same is seen of two runs: outcome, memories and writes, the place, the next access, and how
-- often each place was stood at
pub record RunsAlike (code code' : List Instr) (p : Memories) (e e' : Engine) : Type 0 where
  pub run : (m : ℕ) (ws : List WriteEvent) → run code m e p ws ≡ run code' m e' p ws
  pub place : (m : ℕ) → (after code m e p).engine.place ≡ (after code' m e' p).engine.place
  pub access : (m : ℕ) → access_at code m e p ≡ access_at code' m e' p
  pub stood : (s m : ℕ) → stood code s m e p ≡ stood code' s m e' p

-- an engine and memories from which a run may begin
pub record Begins (e : Engine) (p : Memories) : Type 0 where
  pub engine : IsEngine e
  pub place : e.place ≡ 0
  pub sizes : HasSizes p

-- what the first run gives after some number of steps the second one gives after some number, with the same memories and
-- writes, and the other way round; their accesses are the same; and after each number of steps of either there is a number of
-- the other after which both have stood at each start alike often
pub record Follows (code code' : List Instr) (starts starts' : List ℕ) : Type 0 where
  pub gives : (e : Engine) (p : Memories) → Begins e p → (m : ℕ) → (n : ℕ) × ((ws : List WriteEvent) → run code m e p ws ≡ run code' n e p ws)
  pub gives_only : (e : Engine) (p : Memories) → Begins e p → (n : ℕ) → (m : ℕ) × ((ws : List WriteEvent) → run code m e p ws ≡ run code' n e p ws)
  pub access : (e : Engine) (p : Memories) → Begins e p → (m : ℕ) → (access_at code m e p ≡ None) ⊎ ((n : ℕ) × (access_at code m e p ≡ access_at code' n e p))
  pub access_only : (e : Engine) (p : Memories) → Begins e p → (n : ℕ) → (m : ℕ) × (access_at code m e p ≡ access_at code' n e p)
  pub visits : (e : Engine) (p : Memories) → Begins e p → (m : ℕ) → (n : ℕ) × ((k : ℕ) → k < length starts → stood code (slice_index starts k) m e p ≡ stood code' (slice_index starts' k) n e p)
  pub visits_only : (e : Engine) (p : Memories) → Begins e p → (n : ℕ) → (m : ℕ) × ((k : ℕ) → k < length starts → stood code (slice_index starts k) m e p ≡ stood code' (slice_index starts' k) n e p)
