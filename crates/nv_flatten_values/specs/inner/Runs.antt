-- A run of a program and the run of its flat code side by side.
use Rattle.nv_meaning.specs.Values.{Value, words_of, all_words}
use Rattle.nv_meaning.specs.Running.{plain, Running, Result, Gives, Raises, Halts}
use Rattle.flat_ir.specs.Running as flat

-- a moment of a run, for the flat code: as many calls left, the same memories and writes
abbrev pub flat_run : Running → flat.Running
flat_run now = record { calls = now.calls; packet = now.packet; writes = plain now.writes }

-- what follows a value in the flat code; an exception has the words of its values
abbrev pub onward : Result → (Value → Running → flat.Result) → flat.Result
onward (Gives v now) next = next v now
onward (Raises k vs now) next = flat.Raises k (all_words vs) (flat_run now)
onward (Halts how now) next = flat.Halts how (flat_run now)

-- the same for the whole of what an expression comes to: the words of its value
abbrev pub ended : Result → flat.Result
ended r = onward r (λ v now. flat.Gives (words_of v) (flat_run now))
