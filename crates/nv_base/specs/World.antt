-- What a run has done so far, and what reads and writes of a form with jumps do: the run goes on, or ends with an address fault.
use Rattle.std.specs.Prelude.{ℕ, zero, suc, List, [], ◌∷◌, ◌++◌, Option, Some, None}
use Rattle.nv_base.specs.declared.term.Mem.{Mem}
use Rattle.nv_base.specs.declared.outcome.Write.{Write}
use Rattle.nv_base.specs.declared.outcome.Outcome.{Outcome}
use Rattle.nv_base.specs.declared.outcome.Outcome.TheVariants as outcome
use Rattle.nv_base.specs.Memories.{Memories, fetched, stored}
use Rattle.nv_base.specs.Meanings.{FullOutcome}

-- the memories, and the writes so far, the first one first
pub record World : Type 0 where
  pub packet : Memories
  pub writes : List Write

-- before the first step
abbrev pub begun : Memories → World
begun p = record { packet = p; writes = [] }

-- a run that is over, or going, here
abbrev pub over : Outcome → World → FullOutcome
over how w = record { outcome = how; packet = w.packet; writes = w.writes }

-- an end with number 0 is one with a result, an end with another number is that exception, uncaught
abbrev pub ended : ℕ → List ℕ → Outcome
ended zero ws = outcome.Ended ws
ended (suc k) ws = outcome.Raised (suc k) ws

abbrev pub after_read : Option (List ℕ) → FullOutcome → (List ℕ → FullOutcome) → FullOutcome
after_read (Some ws) bad go = go ws
after_read None bad go = bad

-- n words from an address on; a read that reaches past its memory ends the run as a fault of its first address
abbrev pub read_words : Mem → ℕ → ℕ → World → (List ℕ → FullOutcome) → FullOutcome
read_words m at n w go = after_read (fetched m at n w.packet) (over (outcome.Fault m at) w) go

-- the world with one write more
abbrev pub wrote : Mem → ℕ → List ℕ → Memories → World → World
wrote m at ws p w = record { packet = p; writes = w.writes ++ record { mem = m; at = at; words = ws } ∷ [] }

abbrev pub after_write : Option Memories → FullOutcome → (Memories → FullOutcome) → FullOutcome
after_write (Some p) bad go = go p
after_write None bad go = bad

-- words to an address and on; a write that reaches past its memory changes nothing and ends the run as a fault of its first address
abbrev pub write_words : Mem → ℕ → List ℕ → World → (World → FullOutcome) → FullOutcome
write_words m at ws w go = after_write (stored m at ws w.packet) (over (outcome.Fault m at) w) (λ p. go (wrote m at ws p w))
