-- Contexts that take turns: one code, one packet, and a schedule that says whose turn it is.
use Rattle.std.specs.Prelude.{◌≡◌, ℕ, zero, suc, ◌+◌, ◌*◌, List, [], ◌∷◌, ◌++◌, All, Option, Some, None, length, replicate, slice_get, slice_set}
use Rattle.nv_base.specs.declared.outcome.Write.{Write as WriteEvent}
use Rattle.nv_base.specs.declared.outcome.Outcome.{Outcome}
use Rattle.nv_base.specs.declared.outcome.Outcome.TheVariants as outcome
use Rattle.nv_base.specs.Log.{empty_log, noted_all}
use Rattle.nv_base.specs.Memories.{Memories, source_scratch}
use Rattle.nv_base.specs.Meanings.{source_writes}
use Rattle.uc_isa.specs.Code.{CodeView}
use Rattle.uc_isa.specs.Engine.{start, halted}
use Rattle.uc_isa.specs.Step.{Next, step}
use Rattle.uc_isa.specs.declared.instruction.Instr.{Instr}
use Rattle.uc_isa.specs.declared.engine.Stepped.{Stepped}
use Rattle.uc_isa.specs.declared.engine.Stepped.TheVariants.{Went, Wrote, Halted, Fault}
use Rattle.uc_contexts.specs.declared.state.Context.{Context}

-- the first scratch word that a context may use for itself; each has 128 of them
abbrev pub base_of : ℕ → ℕ
base_of i = source_scratch + 128 * i

-- how many writes each log keeps
abbrev pub kept_writes : ℕ
kept_writes = 64

-- a context before its first step
abbrev pub starting : ℕ → List ℕ → Context
starting i args = record { engine = start args (base_of i); outcome = outcome.Going; log = empty_log kept_writes }

-- contexts before their first steps, from number i on, each with its arguments
abbrev pub started_from : ℕ → List (List ℕ) → List Context
started_from i [] = []
started_from i (args ∷ more) = starting i args ∷ started_from (suc i) more

abbrev pub started : List (List ℕ) → List Context
started args = started_from 0 args

-- contexts of this code before their first steps, each with as many words as the code has parameters
pub record AreFresh (c : CodeView) (contexts : List Context) : Type 0 where
  pub args : List (List ℕ)
  pub words : All (λ a. length a ≡ c.params) args
  pub made : contexts ≡ started args

-- the outcome after a step
abbrev pub outcome_of : Stepped → Outcome
outcome_of Went = outcome.Going
outcome_of (Wrote w) = outcome.Going
outcome_of (Halted k words) = halted k words
outcome_of (Fault m at) = outcome.Fault m at

-- what a step wrote
abbrev pub written : Stepped → List WriteEvent
written Went = []
written (Wrote w) = w ∷ []
written (Halted k words) = []
written (Fault m at) = []

-- a context and the memories
pub record Turn : Type 0 where
  pub context : Context
  pub packet : Memories

-- a context after a step, whose write is noted where it is a source's
abbrev pub moved : Next → Context → Turn
moved n x = record {
  context = record { engine = n.engine; outcome = outcome_of n.stepped; log = noted_all x.log (source_writes (written n.stepped)) };
  packet = n.packet;
}

-- one turn of a context with this outcome: a step where it is going, and nothing where it is over
abbrev pub turn_at : Outcome → List Instr → Context → Memories → Turn
turn_at outcome.Going code x p = moved (step code x.engine p) x
turn_at (outcome.Ended ws) code x p = record { context = x; packet = p }
turn_at (outcome.Raised k ws) code x p = record { context = x; packet = p }
turn_at (outcome.Fault m at) code x p = record { context = x; packet = p }

abbrev pub turn : List Instr → Context → Memories → Turn
turn code x p = turn_at x.outcome code x p

-- all contexts, and the packet that they share
pub record System : Type 0 where
  pub contexts : List Context
  pub packet : Memories

-- the system after a turn of the context with number i, if there is one
abbrev pub entered : List Instr → ℕ → Option Context → System → System
entered code i (Some x) s = let t = turn code x s.packet in record { contexts = slice_set s.contexts i t.context; packet = t.packet }
entered code i None s = s

-- one entry of a schedule: a turn of the context with this number
abbrev pub enter : List Instr → ℕ → System → System
enter code i s = entered code i (slice_get s.contexts i) s

-- a schedule is a list of context numbers, taken in order
abbrev pub scheduled : List Instr → List ℕ → System → System
scheduled code [] s = s
scheduled code (i ∷ rest) s = scheduled code rest (enter code i s)

-- the context numbers of a list of pairs: (i, n) is i, n times
abbrev pub entries : List (ℕ × ℕ) → List ℕ
entries [] = []
entries (pair ∷ rest) = replicate pair.1 pair.0 ++ entries rest

-- n turns of one context, one after the other
abbrev pub turns : List Instr → ℕ → Context → Memories → Turn
turns code zero x p = record { context = x; packet = p }
turns code (suc n) x p = let t = turn code x p in turns code n t.context t.packet
