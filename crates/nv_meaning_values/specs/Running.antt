-- A run in progress, and what a part of the text comes to in it.
use Rattle.std.specs.Prelude.{ℕ, zero, suc, ◌==◌, ◌+◌, ◌-◌, List, [], ◌∷◌, ◌++◌, Bool, false, Option, Some, None, length, map, slice_get, take, if◌then◌else◌, bytes_eq}
use Rattle.nv_base.specs.declared.term.Mem.{Mem}
use Rattle.nv_base.specs.declared.outcome.Write.{Write}
use Rattle.nv_base.specs.declared.outcome.Outcome.{Outcome}
use Rattle.nv_base.specs.declared.outcome.Outcome.TheVariants as outcome
use Rattle.nv_base.specs.Memories.{Memories, fetched, stored}
use Rattle.nv_base.specs.Meanings.{FullOutcome}
use Rattle.nv_ast.specs.Faults.{can_move}
use Rattle.nv_ast.specs.declared.token.Span.{Span}
use Rattle.nv_meaning_values.specs.Values.{Value, Word, Values, value_and, NamedValues, named_value_and, Scope, words_of, all_words, words_value}

-- a call in progress: the function's name, and the number of its group
abbrev pub InCall : Type 0
InCall = List ℕ × ℕ

-- where a part of the text runs: the calls in progress, main's first, and the number of the group of each function
pub record Chain : Type 0 where
  pub groups : List ℕ
  pub calls : List InCall

-- a write, the place of its store statement in the text, and the names of the functions in progress, the outermost first
pub record Made : Type 0 where
  pub write : Write
  pub span : Span
  pub chain : List (List ℕ)

abbrev pub names_in : Chain → List (List ℕ)
names_in c = map (λ f. f.0) c.calls

-- the writes alone
abbrev pub plain : List Made → List Write
plain ms = map (λ m. m.write) ms

-- how many calls are left in the whole run, the memories, the writes so far, the first one first, and the calls in progress
pub record Running : Type 0 where
  pub calls : ℕ
  pub packet : Memories
  pub writes : List Made
  pub chain : Chain

-- what an expression comes to: a value, an exception with its number on the way to a handler, or the end of the run
pub data Result : Type 0 where
  Gives : (v : Value) (now : Running) → Result
  Raises : (k : ℕ) (vs : Values) (now : Running) → Result
  Halts : (how : Outcome) (now : Running) → Result

-- what expressions one after another come to: all their values, or what the first came to that gave none
pub data Results : Type 0 where
  GiveAll : (vs : Values) (now : Running) → Results
  Breaks : (how : Result) → Results

-- the same for expressions with names
pub data NamedResults : Type 0 where
  GiveNamed : (vs : NamedValues) (now : Running) → NamedResults
  BreaksNamed : (how : Result) → NamedResults

-- what statements come to: the scope after them, or what an expression came to that gave no value
pub data Stated : Type 0 where
  GoesOn : (scope : Scope) (now : Running) → Stated
  StopsAt : (how : Result) → Stated

-- ---- what follows a value, in each of these
abbrev pub and_then : Result → (Value → Running → Result) → Result
and_then (Gives v now) next = next v now
and_then (Raises k vs now) next = Raises k vs now
and_then (Halts how now) next = Halts how now

abbrev pub and_all : Results → (Values → Running → Result) → Result
and_all (GiveAll vs now) next = next vs now
and_all (Breaks how) next = how

abbrev pub and_named : NamedResults → (NamedValues → Running → Result) → Result
and_named (GiveNamed vs now) next = next vs now
and_named (BreaksNamed how) next = how

abbrev pub and_stated : Stated → (Scope → Running → Result) → Result
and_stated (GoesOn scope now) next = next scope now
and_stated (StopsAt how) next = how

abbrev pub and_further : Stated → (Scope → Running → Stated) → Stated
and_further (GoesOn scope now) next = next scope now
and_further (StopsAt how) next = StopsAt how

abbrev pub then_more : Result → (Value → Running → Results) → Results
then_more (Gives v now) next = next v now
then_more (Raises k vs now) next = Breaks (Raises k vs now)
then_more (Halts how now) next = Breaks (Halts how now)

abbrev pub then_named : Result → (Value → Running → NamedResults) → NamedResults
then_named (Gives v now) next = next v now
then_named (Raises k vs now) next = BreaksNamed (Raises k vs now)
then_named (Halts how now) next = BreaksNamed (Halts how now)

abbrev pub then_stated : Result → (Value → Running → Stated) → Stated
then_stated (Gives v now) next = next v now
then_stated (Raises k vs now) next = StopsAt (Raises k vs now)
then_stated (Halts how now) next = StopsAt (Halts how now)

-- a value in front of those that follow
abbrev pub before_rest : Value → Results → Results
before_rest v (GiveAll vs now) = GiveAll (value_and v vs) now
before_rest v (Breaks how) = Breaks how

abbrev pub before_named : List ℕ → Value → NamedResults → NamedResults
before_named x v (GiveNamed vs now) = GiveNamed (named_value_and x v vs) now
before_named x v (BreaksNamed how) = BreaksNamed how

-- ---- exceptions: the handler of exception k takes it, and hands on every other one
abbrev pub handled : ℕ → (Values → Running → Result) → Result → Result
handled k handler (Gives v now) = Gives v now
handled k handler (Raises j vs now) = if j == k then handler vs now else Raises j vs now
handled k handler (Halts how now) = Halts how now

-- exceptions are numbered from 1 in the order of their declarations; 0 is none
abbrev pub number_from : ℕ → List (List ℕ) → List ℕ → ℕ
number_from k [] x = 0
number_from k (y ∷ ys) x = if bytes_eq x y then k else number_from (k + 1) ys x

abbrev pub exception_number : List (List ℕ) → List ℕ → ℕ
exception_number exceptions x = number_from 1 exceptions x

-- ---- accesses: one that reaches past the memory ends the run with its kind and first address, and changes nothing.
-- One of a number of words that no typed program fetches or stores there gives 0, or changes nothing.
abbrev pub after_fetch : Mem → ℕ → Option (List ℕ) → Running → Result
after_fetch m at (Some ws) now = Gives (words_value ws) now
after_fetch m at None now = Halts (outcome.Fault m at) now

abbrev pub fetch : Mem → ℕ → ℕ → Running → Result
fetch m n at now = if can_move m n then after_fetch m at (fetched m at n now.packet) now else Gives (Word 0) now

abbrev pub made_by : Span → Chain → Mem → ℕ → List ℕ → Made
made_by s c m at ws = record { write = record { mem = m; at = at; words = ws }; span = s; chain = names_in c }

abbrev pub after_store : Span → Scope → Mem → ℕ → List ℕ → Option Memories → Running → Stated
after_store s scope m at ws (Some p) now = GoesOn scope (record { calls = now.calls; packet = p; writes = now.writes ++ made_by s now.chain m at ws ∷ []; chain = now.chain })
after_store s scope m at ws None now = StopsAt (Halts (outcome.Fault m at) now)

abbrev pub store : Span → Scope → Mem → ℕ → List ℕ → Running → Stated
store s scope m at ws now = if can_move m (length ws) then after_store s scope m at ws (stored m at ws now.packet) now else GoesOn scope now

-- ---- a call takes one of those left in the run; where none is left the run is still going, with its writes so far
abbrev pub taken : ℕ → Running → (Running → Result) → Result
taken zero now next = Halts outcome.Going now
taken (suc left) now next = next (record { calls = left; packet = now.packet; writes = now.writes; chain = now.chain })

-- ---- the calls in progress

abbrev pub innermost : List InCall → Option InCall
innermost fs = slice_get fs (length fs - 1)

-- whether it is of a function of this group
abbrev pub is_own : Option InCall → ℕ → Bool
is_own None n = false
is_own (Some f) n = f.1 == n

-- a call of the own group, which is the caller's last act, takes the caller's place; any other call comes after it
abbrev pub called : List InCall → InCall → List InCall
called fs f = (if is_own (innermost fs) f.1 then take (length fs - 1) fs else fs) ++ f ∷ []

abbrev pub calling : InCall → Running → Running
calling f now = record { calls = now.calls; packet = now.packet; writes = now.writes; chain = record { groups = now.chain.groups; calls = called now.chain.calls f } }

-- after a call the same calls are in progress as before it
abbrev pub back_to : Chain → Result → Result
back_to c (Gives v now) = Gives v (record { calls = now.calls; packet = now.packet; writes = now.writes; chain = c })
back_to c (Raises k vs now) = Raises k vs (record { calls = now.calls; packet = now.packet; writes = now.writes; chain = c })
back_to c (Halts how now) = Halts how (record { calls = now.calls; packet = now.packet; writes = now.writes; chain = c })

-- ---- the full outcome of a run whose main came to this; of a typed program it has at most eight words
pub record TracedOutcome : Type 0 where
  pub outcome : Outcome
  pub packet : Memories
  pub writes : List Made

abbrev pub over : Outcome → Running → TracedOutcome
over how now = record { outcome = how; packet = now.packet; writes = now.writes }

abbrev pub closed : Result → TracedOutcome
closed (Gives v now) = over (outcome.Ended (take 8 (words_of v))) now
closed (Raises k vs now) = over (outcome.Raised k (take 8 (all_words vs))) now
closed (Halts how now) = over how now

-- the same without statements and chains
abbrev pub untraced : TracedOutcome → FullOutcome
untraced t = record { outcome = t.outcome; packet = t.packet; writes = plain t.writes }
