-- What a run gives, and when two meanings are the same.
use Rattle.std.specs.Prelude.{◌≡◌, ℕ, ◌<◌, ◌^◌, List, [], ◌∷◌, ◌++◌, Bool, true, take, filter, length, All, nat_lt, unwrap_or, ⊤}
use Rattle.nv_base.specs.declared.term.Mem.{Mem}
use Rattle.nv_base.specs.declared.term.Mem.TheVariants.{Sram, Sdram, Scratch}
use Rattle.nv_base.specs.declared.outcome.Outcome.{Outcome}
use Rattle.nv_base.specs.declared.outcome.Outcome.TheVariants.{Ended, Raised, Fault, Going}
use Rattle.nv_base.specs.declared.outcome.Write.{Write}
use Rattle.nv_base.specs.Memories.{Memories, HasSizes, source_scratch, stored}

-- an outcome, with the memories and the writes so far, the first one first
pub record FullOutcome : Type 0 where
  pub outcome : Outcome
  pub packet : Memories
  pub writes : List Write

-- the run is over
abbrev pub IsOver : Outcome → Type 0
IsOver (Ended ws) = ⊤
IsOver (Raised k ws) = ⊤
IsOver (Fault m at) = ⊤
IsOver Going = ⊥

-- a write that a source can make: scratch words from 512 on belong to the compiler
abbrev pub is_source_write : Mem → ℕ → Bool
is_source_write Sram at = true
is_source_write Sdram at = true
is_source_write Scratch at = nat_lt at source_scratch

-- the writes without those to the compiler's scratch words
abbrev pub source_writes : List Write → List Write
source_writes ws = filter (λ w. is_source_write w.mem w.at) ws

-- the memories without the compiler's scratch words
abbrev pub source_memories : Memories → Memories
source_memories p = record p { scratch = take source_scratch p.scratch }

-- a full outcome without the compiler's scratch words
abbrev pub seen : FullOutcome → FullOutcome
seen f = record { outcome = f.outcome; packet = source_memories f.packet; writes = source_writes f.writes }

-- the second list is the first, followed by some more
abbrev pub IsPrefix : List Write → List Write → Type 0
IsPrefix front all = (rest : List Write) × (all ≡ front ++ rest)

-- a full outcome for every number of steps or calls
abbrev pub Meaning : Type 0
Meaning = ℕ → FullOutcome

-- what one meaning ends with, the other ends with, and the writes of each are the first ones of the other's
pub record Same (m n : Meaning) : Type 0 where
  pub ends : (i : ℕ) → IsOver (m i).outcome → (j : ℕ) × (seen (m i) ≡ seen (n j))
  pub ends_only : (j : ℕ) → IsOver (n j).outcome → (i : ℕ) × (seen (m i) ≡ seen (n j))
  pub writes : (i : ℕ) → (j : ℕ) × IsPrefix (seen (m i)).writes (seen (n j)).writes
  pub writes_only : (j : ℕ) → (i : ℕ) × IsPrefix (seen (n j)).writes (seen (m i)).writes

-- words that a program of so many parameters is started on
abbrev pub AreArguments : ℕ → List ℕ → Type 0
AreArguments params args = (length args ≡ params) × All (λ w. w < 2 ^ 32) args

-- two programs take equally many words, and on all of them and every packet their meanings are the same
pub record KeepsOutcomes (params params' : ℕ) (m n : List ℕ → Memories → Meaning) : Type 0 where
  pub arguments : params ≡ params'
  pub same : (args : List ℕ) (p : Memories) → AreArguments params args → HasSizes p → Same (m args p) (n args p)

-- on whatever both are started, with so many parameters, their full outcomes within each number of calls are equal
abbrev pub AreEqual : ℕ → (List ℕ → Memories → Meaning) → (List ℕ → Memories → Meaning) → Type 0
AreEqual params m n = (args : List ℕ) (p : Memories) → AreArguments params args → HasSizes p → (calls : ℕ) → m args p calls ≡ n args p calls

-- the memories after a write; one that reaches past its memory changes nothing
abbrev pub applied : Write → Memories → Memories
applied w p = unwrap_or (stored w.mem w.at w.words p) p

-- the memories after these writes, in order
abbrev pub left_by : List Write → Memories → Memories
left_by [] p = p
left_by (w ∷ ws) p = left_by ws (applied w p)
