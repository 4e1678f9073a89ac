-- What the store and the sink in memory show.
use Rattle.std.specs.Prelude.{◌≡◌, ℕ, List, Vec, String, option_map}
use Rattle.std.specs.Global.{Global}
use Rattle.std.specs.BTreeMap.{BTreeMap, get_by_text}
use Rattle.nv_outside.specs.Causes.{one_more}
use Rattle.nv_outside.specs.Holding.{Holding}
use Rattle.nv_outside.specs.declared.memory.MemFiles.{MemFiles}
use Rattle.nv_outside.specs.declared.memory.MemSink.{MemSink}

-- the bytes that a map has under each name
abbrev pub holding_of : BTreeMap (String Global) (Vec ℕ Global) → Holding
holding_of map name = option_map (λ bytes. bytes.items) (get_by_text map name)

-- the bytes that a store has under each name
abbrev pub files_of : MemFiles → Holding
files_of store = holding_of store.files

-- the number of the next load or save
abbrev pub next_call : MemFiles → ℕ
next_call store = store.calls

-- the numbers of the calls that fail
abbrev pub failing_calls : MemFiles → List ℕ
failing_calls store = store.failing.items

-- how often loads have failed, and saves, whatever the name
abbrev pub load_count : MemFiles → ℕ
load_count store = store.load_faults

abbrev pub save_count : MemFiles → ℕ
save_count store = store.save_faults

-- how many growths were refused
abbrev pub refused_count : MemFiles → ℕ
refused_count store = store.refused

-- the call took the next number, and the same numbers fail as before
pub record IsNumbered (old new : MemFiles) : Type 0 where
  pub next : next_call new ≡ one_more (next_call old)
  pub failing : failing_calls new ≡ failing_calls old

-- what was written to a sink
abbrev pub written_of : MemSink → List ℕ
written_of sink = sink.bytes.items

-- the number of the next put
abbrev pub next_put : MemSink → ℕ
next_put sink = sink.calls

-- the numbers of the puts that fail
abbrev pub failing_puts : MemSink → List ℕ
failing_puts sink = sink.failing.items

-- how often puts have failed
abbrev pub put_count : MemSink → ℕ
put_count sink = sink.faults

-- how many growths of a sink were refused
abbrev pub refused_puts : MemSink → ℕ
refused_puts sink = sink.refused

-- the put took the next number, and the same numbers fail as before
pub record IsNumberedPut (old new : MemSink) : Type 0 where
  pub next : next_put new ≡ one_more (next_put old)
  pub failing : failing_puts new ≡ failing_puts old
