-- How a value or a stop of the interpreter stands to the meaning.
use Rattle.std.specs.Prelude.{◌≡◌, List, ◌++◌, Result as Answer, Ok, Err}
use Rattle.nv_base.specs.declared.outcome.Outcome.TheVariants as outcome
use Rattle.nv_base.specs.Meanings.{left_by}
use Rattle.nv_meaning_values.specs.Running.{Made, plain, Running, Result, Gives, Raises, Halts}
use Rattle.nv_meaning_values.specs.inner.View.{view, list_values}
use Rattle.nv_meaning_values.specs.declared.value.Value.{Value}
use Rattle.nv_meaning_values.specs.declared.stop.Interruption.{Interruption}
use Rattle.nv_meaning_values.specs.declared.stop.Interruption.TheVariants.{NoMemory, Raised, Fault, Going}

-- the run of a result
abbrev pub now_of : Result → Running
now_of (Gives v now) = now
now_of (Raises k vs now) = now
now_of (Halts how now) = now

-- the writes so far are the first ones of a result's, and the further ones made its memories of those so far
pub record Grown (now : Running) (r : Result) : Type 0 where
  pub rest : List Made
  pub writes : (now_of r).writes ≡ now.writes ++ rest
  pub packet : (now_of r).packet ≡ left_by (plain rest) now.packet

-- a stop is what the run came to; after memory exhaustion its writes so far are the first ones of the result's
abbrev pub Interrupted : Interruption → Running → Result → Type 0
Interrupted NoMemory now r = Grown now r
Interrupted (Raised k vs) now r = r ≡ Raises k (list_values vs.items) now
Interrupted (Fault m at) now r = r ≡ Halts (outcome.Fault m at) now
Interrupted Going now r = r ≡ Halts outcome.Going now

-- a value, or a stop
abbrev pub IsValue : Answer Value Interruption → Running → Result → Type 0
IsValue (Ok v) now r = r ≡ Gives (view v) now
IsValue (Err stop) now r = Interrupted stop now r
