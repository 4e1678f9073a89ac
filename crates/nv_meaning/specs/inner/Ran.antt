-- How what the interpreter answers stands to the meaning.
use Rattle.std.specs.Prelude.{◌≡◌, ℕ, ◌≤◌, List, [], ◌++◌, Result as Answer, Ok, Err, Vec}
use Rattle.std.specs.Borrow.{Bor}
use Rattle.std.specs.declared.alloc.Global.{Global}
use Rattle.nv_base.specs.declared.outcome.Outcome.{Outcome}
use Rattle.nv_base.specs.declared.error.NoMemory as base
use Rattle.nv_base.specs.Memories.{Memories}
use Rattle.nv_base.specs.Log.{Log, noted_all}
use Rattle.nv_base.specs.Meanings.{source_writes, left_by}
use Rattle.nv_meaning_values.specs.Notes.{Notes, Knows, traced_all, source_made}
use Rattle.nv_meaning_values.specs.Callers.{IsAbove}
use Rattle.nv_meaning_values.specs.Chains.{Kept, trail_of}
use Rattle.nv_meaning_values.specs.Values.{Values, Word, Tuple, Record, Scope}
use Rattle.nv_meaning_values.specs.Running.{Chain, Made, plain, Running, TracedOutcome, Result, Gives, Results, GiveAll, Breaks, NamedResults, GiveNamed, BreaksNamed, Stated, GoesOn, StopsAt}
use Rattle.nv_meaning.specs.Meaning.{Declared, Calls, calls_within}
pub use Rattle.nv_meaning_values.specs.inner.Interrupting.{now_of, Grown, Interrupted, IsValue}
use Rattle.nv_meaning_values.specs.inner.View.{view, list_values, list_named_values}
use Rattle.nv_meaning_values.specs.declared.value.Value.{Value}
use Rattle.nv_meaning.specs.declared.step.Step.{Step}
use Rattle.nv_meaning.specs.declared.step.Step.TheVariants.{Done, Again}
use Rattle.nv_meaning_values.specs.declared.stop.Interruption.{Interruption}

-- ---- moments of the interpreter's work: the calls that are left, the memories and the notes
pub record At : Type 0 where
  pub calls : ℕ
  pub packet : Memories
  pub log : Notes

abbrev pub at : ℕ → Memories → Notes → At
at calls packet log = record { calls = calls; packet = packet; log = log }

-- what a log and a trace say, without the calls in progress
abbrev pub notes_of : Log → Kept → Notes
notes_of log trace = record { log = log; trail = trail_of trace; chain = record { groups = []; calls = [] } }

-- the run at such a moment, with these calls in progress and these writes so far
abbrev pub running : At → Chain → List Made → Running
running a c ms = record { calls = a.calls; packet = a.packet; writes = ms; chain = c }

-- these writes were made from one moment to a later one
pub record Wrote (a b : At) (ms : List Made) : Type 0 where
  pub calls : b.calls ≤ a.calls
  pub packet : b.packet ≡ left_by (plain ms) a.packet
  pub log : b.log.log ≡ noted_all a.log.log (source_writes (plain ms))
  pub trail : b.log.trail ≡ traced_all a.log.trail (source_made ms)

-- ---- answers

-- a step with the call in its place made
abbrev pub step_result : Calls → Step → Running → Result
step_result call (Done v) now = Gives (view v) now
step_result call (Again f vs) now = call f.now (list_values vs.items) now

abbrev pub IsStep : Calls → Answer Step Interruption → Running → Result → Type 0
IsStep call (Ok step) now r = r ≡ step_result call step now
IsStep call (Err stop) now r = Interrupted stop now r

-- some values as their tuple or record, and a scope as any value
abbrev pub all_result : Results → Result
all_result (GiveAll vs now) = Gives (Tuple vs) now
all_result (Breaks how) = how

abbrev pub named_result : NamedResults → Result
named_result (GiveNamed vs now) = Gives (Record vs) now
named_result (BreaksNamed how) = how

abbrev pub stated_result : Stated → Result
stated_result (GoesOn scope now) = Gives (Word 0) now
stated_result (StopsAt how) = how

abbrev pub AreValues : Answer (Vec Value Global) Interruption → Running → Results → Type 0
AreValues (Ok vs) now r = r ≡ GiveAll (list_values vs.items) now
AreValues (Err stop) now r = Interrupted stop now (all_result r)

abbrev pub AreFields : Answer (Vec (Bor (List ℕ) × Value) Global) Interruption → Running → NamedResults → Type 0
AreFields (Ok fields) now r = r ≡ GiveNamed (list_named_values fields.items) now
AreFields (Err stop) now r = Interrupted stop now (named_result r)

-- the scope behind statements
abbrev pub IsScope : Answer (Unit {0}) Interruption → Scope → Running → Stated → Type 0
IsScope (Ok u) scope now r = r ≡ GoesOn scope now
IsScope (Err stop) scope now r = Interrupted stop now (stated_result r)

-- ---- from one moment to a later one, with the same calls in progress, however deep calls may lie in one another beyond those
-- that are left
pub record Came (a b : At) (c : Chain) (before : List Made) (R : Running → Running → Type 0) : Type 0 where
  pub wrote : List Made
  pub change : Wrote a b wrote
  pub knows : Knows b.log c
  pub comes : R (running a c before) (running b c (before ++ wrote))

pub record Ran (d : Declared) (a b : At) (comes : Calls → Running → Running → Type 0) : Type 0 where
  pub run : (depth : ℕ) → a.calls ≤ depth → (c : Chain) → Knows a.log c → (before : List Made) → Came a b c before (comes (calls_within depth d))

-- a call, while the calls in progress lie above those at its start
pub record Reached (a b : At) (c : Chain) (before : List Made) (R : Running → Running → Type 0) : Type 0 where
  pub wrote : List Made
  pub change : Wrote a b wrote
  pub later : Chain
  pub knows : Knows b.log later
  pub above : IsAbove c later
  pub comes : R (running a c before) (running b c (before ++ wrote))

pub record RanCall (d : Declared) (a b : At) (answer : Answer Value Interruption) (f : List ℕ) (vs : Values) : Type 0 where
  pub run : (depth : ℕ) → a.calls ≤ depth → (c : Chain) → Knows a.log c → (before : List Made) → Reached a b c before (λ now last. IsValue answer last (calls_within depth d f vs now))

abbrev pub RanStep : Declared → At → At → Answer Step Interruption → (Calls → Running → Result) → Type 0
RanStep d a b answer r = Ran d a b (λ call now last. IsStep call answer last (r call now))

abbrev pub RanValue : Declared → At → At → Answer Value Interruption → (Calls → Running → Result) → Type 0
RanValue d a b answer r = Ran d a b (λ call now last. IsValue answer last (r call now))

abbrev pub RanValues : Declared → At → At → Answer (Vec Value Global) Interruption → (Calls → Running → Results) → Type 0
RanValues d a b answer r = Ran d a b (λ call now last. AreValues answer last (r call now))

abbrev pub RanFields : Declared → At → At → Answer (Vec (Bor (List ℕ) × Value) Global) Interruption → (Calls → Running → NamedResults) → Type 0
RanFields d a b answer r = Ran d a b (λ call now last. AreFields answer last (r call now))

abbrev pub RanScope : Declared → At → At → Answer (Unit {0}) Interruption → Scope → (Calls → Running → Stated) → Type 0
RanScope d a b answer scope r = Ran d a b (λ call now last. IsScope answer scope last (r call now))

-- ---- a whole run: its full outcome, or after memory exhaustion a moment before its end
pub record Noted (a b : At) (ms : List Made) : Type 0 where
  pub log : b.log.log ≡ noted_all a.log.log (source_writes (plain ms))
  pub trail : b.log.trail ≡ traced_all a.log.trail (source_made ms)

abbrev pub Executes : Answer Outcome base.NoMemory → At → At → TracedOutcome → Type 0
Executes (Ok o) a b f = (f.outcome ≡ o) × (f.packet ≡ b.packet) × Noted a b f.writes
Executes (Err e) a b f = (made : List Made) × ((rest : List Made) × (f.writes ≡ made ++ rest)) × (b.packet ≡ left_by (plain made) a.packet) × Noted a b made
