-- A run in progress, and the accesses and calls in it. What a language comes to is its own: `stop` makes it of the run's end.
use Rattle.std.specs.Prelude.{ℕ, zero, suc, List, [], ◌∷◌, ◌++◌, Option, Some, None}
use Rattle.nv_base.specs.declared.term.Mem.{Mem}
use Rattle.nv_base.specs.declared.outcome.Write.{Write}
use Rattle.nv_base.specs.declared.outcome.Outcome.{Outcome}
use Rattle.nv_base.specs.declared.outcome.Outcome.TheVariants.{Fault, Going}
use Rattle.nv_base.specs.Memories.{Memories, fetched, stored}
use Rattle.nv_base.specs.Meanings.{FullOutcome}

-- how many calls are left in the whole run, the memories, and the writes so far, the first one first
pub record Running : Type 0 where
  pub calls : ℕ
  pub packet : Memories
  pub writes : List Write

-- the full outcome of a run that ended so
abbrev pub over : Outcome → Running → FullOutcome
over how now = record { outcome = how; packet = now.packet; writes = now.writes }

-- an access that reaches past its memory ends the run with the memory and its first address, and changes nothing
abbrev pub after_fetch : {A : Type 0} → (Outcome → Running → A) → Mem → ℕ → Option (List ℕ) → Running → (List ℕ → A) → A
after_fetch stop m at (Some ws) now next = next ws
after_fetch stop m at None now next = stop (Fault m at) now

abbrev pub fetch : {A : Type 0} → (Outcome → Running → A) → Mem → ℕ → ℕ → Running → (List ℕ → A) → A
fetch stop m n at now next = after_fetch stop m at (fetched m at n now.packet) now next

abbrev pub after_store : {A : Type 0} → (Outcome → Running → A) → Mem → ℕ → List ℕ → Option Memories → Running → (Running → A) → A
after_store stop m at ws (Some p) now next = next (record { calls = now.calls; packet = p; writes = now.writes ++ record { mem = m; at = at; words = ws } ∷ [] })
after_store stop m at ws None now next = stop (Fault m at) now

abbrev pub store : {A : Type 0} → (Outcome → Running → A) → Mem → ℕ → List ℕ → Running → (Running → A) → A
store stop m at ws now next = after_store stop m at ws (stored m at ws now.packet) now next

-- a call takes one of those left in the run; where none is left the run is still going, with its writes so far
abbrev pub taken : {A : Type 0} → (Outcome → Running → A) → ℕ → Running → (Running → A) → A
taken stop zero now next = stop Going now
taken stop (suc left) now next = next (record { calls = left; packet = now.packet; writes = now.writes })
