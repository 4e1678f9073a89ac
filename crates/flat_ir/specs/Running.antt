-- What flat code comes to in a run.
use Rattle.std.specs.Prelude.{ℕ, ◌==◌, List, Option, if◌then◌else◌}
use Rattle.nv_base.specs.declared.term.Mem.{Mem}
use Rattle.nv_base.specs.declared.outcome.Outcome.{Outcome}
use Rattle.nv_base.specs.declared.outcome.Outcome.TheVariants as outcome
use Rattle.nv_base.specs.Memories.{Memories}
use Rattle.nv_base.specs.Meanings.{FullOutcome}
use Rattle.nv_base.specs.Running as running
pub use Rattle.nv_base.specs.Running.{Running, over}

-- what code comes to: words, an exception with its number on the way to a handler, or the end of the run
pub data Result : Type 0 where
  Gives : (ws : List ℕ) (now : Running) → Result
  Raises : (k : ℕ) (ws : List ℕ) (now : Running) → Result
  Halts : (how : Outcome) (now : Running) → Result

-- what follows words
abbrev pub and_then : Result → (List ℕ → Running → Result) → Result
and_then (Gives ws now) next = next ws now
and_then (Raises k ws now) next = Raises k ws now
and_then (Halts how now) next = Halts how now

-- the handler of exception k takes it, and hands on every other one
abbrev pub handled : ℕ → (List ℕ → Running → Result) → Result → Result
handled k handler (Gives ws now) = Gives ws now
handled k handler (Raises j ws now) = if j == k then handler ws now else Raises j ws now
handled k handler (Halts how now) = Halts how now

-- an access that reaches past its memory, and a call where none is left, end the run

abbrev pub after_fetch : Mem → ℕ → Option (List ℕ) → Running → (List ℕ → Result) → Result
after_fetch m at found now next = running.after_fetch Halts m at found now next

abbrev pub fetch : Mem → ℕ → ℕ → Running → (List ℕ → Result) → Result
fetch m n at now next = running.fetch Halts m n at now next

abbrev pub after_store : Mem → ℕ → List ℕ → Option Memories → Running → (Running → Result) → Result
after_store m at ws found now next = running.after_store Halts m at ws found now next

abbrev pub store : Mem → ℕ → List ℕ → Running → (Running → Result) → Result
store m at ws now next = running.store Halts m at ws now next

abbrev pub taken : ℕ → Running → (Running → Result) → Result
taken left now next = running.taken Halts left now next

-- the full outcome of a run whose main came to this
abbrev pub closed : Result → FullOutcome
closed (Gives ws now) = over (outcome.Ended ws) now
closed (Raises k ws now) = over (outcome.Raised k ws) now
closed (Halts how now) = over how now
