-- A stop goes through what would have followed a value.
use Rattle.std.proofs.Common.{◌≡◌, ℕ, List, [], ◌∷◌, ◌++◌, refl, ap}
use Rattle.nv_meaning_values.specs.Values.{Value, Values, no_values, NamedValues, no_named_values, Scope}
use Rattle.nv_meaning_values.specs.Running.{Running, Result, Results, GiveAll, Breaks, NamedResults, GiveNamed, BreaksNamed, Stated, GoesOn, StopsAt, and_then, and_all, and_named, and_stated, and_further, then_more, then_named, then_stated, before_rest, before_named}
use Rattle.nv_meaning_values.specs.declared.value.Value as code
use Rattle.nv_meaning_values.specs.declared.stop.Interruption.{Interruption}
use Rattle.nv_meaning_values.specs.declared.stop.Interruption.TheVariants.{NoMemory, Raised, Fault, Going}
use Rattle.nv_meaning_values.specs.inner.View.{Named, view, list_values, list_named_values}
use Rattle.nv_meaning.specs.inner.Ran.{Interrupted, Grown, all_result, named_result, stated_result}
use Rattle.nv_meaning.proofs.Grows.{grown-then, grown-all, grown-named, grown-stated, grown-further_on, grown-more, grown-more_named, grown-statement}

pub stop-then : (stop : Interruption) (now : Running) (q : Result) (next : Value → Running → Result) → ((v : Value) (last : Running) → Grown last (next v last)) → Interrupted stop now q → Interrupted stop now (and_then q next)
stop-then NoMemory now q next g h = grown-then now q next h g
stop-then (Raised k vs) now q next g h = ap (λ r. and_then r next) h
stop-then (Fault m at) now q next g h = ap (λ r. and_then r next) h
stop-then Going now q next g h = ap (λ r. and_then r next) h

pub stop-all : (stop : Interruption) (now : Running) (q : Results) (next : Values → Running → Result) → ((vs : Values) (last : Running) → Grown last (next vs last)) → Interrupted stop now (all_result q) → Interrupted stop now (and_all q next)
stop-all NoMemory now q next g h = grown-all now q next h g
stop-all (Raised k vs) now (GiveAll us last) next g h = cc
stop-all (Raised k vs) now (Breaks how) next g h = h
stop-all (Fault m at) now (GiveAll us last) next g h = cc
stop-all (Fault m at) now (Breaks how) next g h = h
stop-all Going now (GiveAll us last) next g h = cc
stop-all Going now (Breaks how) next g h = h

pub stop-named : (stop : Interruption) (now : Running) (q : NamedResults) (next : NamedValues → Running → Result) → ((vs : NamedValues) (last : Running) → Grown last (next vs last)) → Interrupted stop now (named_result q) → Interrupted stop now (and_named q next)
stop-named NoMemory now q next g h = grown-named now q next h g
stop-named (Raised k vs) now (GiveNamed us last) next g h = cc
stop-named (Raised k vs) now (BreaksNamed how) next g h = h
stop-named (Fault m at) now (GiveNamed us last) next g h = cc
stop-named (Fault m at) now (BreaksNamed how) next g h = h
stop-named Going now (GiveNamed us last) next g h = cc
stop-named Going now (BreaksNamed how) next g h = h

pub stop-stated : (stop : Interruption) (now : Running) (q : Stated) (next : Scope → Running → Result) → ((s : Scope) (last : Running) → Grown last (next s last)) → Interrupted stop now (stated_result q) → Interrupted stop now (and_stated q next)
stop-stated NoMemory now q next g h = grown-stated now q next h g
stop-stated (Raised k vs) now (GoesOn s last) next g h = cc
stop-stated (Raised k vs) now (StopsAt how) next g h = h
stop-stated (Fault m at) now (GoesOn s last) next g h = cc
stop-stated (Fault m at) now (StopsAt how) next g h = h
stop-stated Going now (GoesOn s last) next g h = cc
stop-stated Going now (StopsAt how) next g h = h

pub stop-further : (stop : Interruption) (now : Running) (q : Stated) (next : Scope → Running → Stated) → ((s : Scope) (last : Running) → Grown last (stated_result (next s last))) → Interrupted stop now (stated_result q) → Interrupted stop now (stated_result (and_further q next))
stop-further NoMemory now q next g h = grown-further_on now q next h g
stop-further (Raised k vs) now (GoesOn s last) next g h = cc
stop-further (Raised k vs) now (StopsAt how) next g h = h
stop-further (Fault m at) now (GoesOn s last) next g h = cc
stop-further (Fault m at) now (StopsAt how) next g h = h
stop-further Going now (GoesOn s last) next g h = cc
stop-further Going now (StopsAt how) next g h = h

pub stop-more : (stop : Interruption) (now : Running) (q : Result) (next : Value → Running → Results) → ((v : Value) (last : Running) → Grown last (all_result (next v last))) → Interrupted stop now q → Interrupted stop now (all_result (then_more q next))
stop-more NoMemory now q next g h = grown-more now q next h g
stop-more (Raised k vs) now q next g h = ap (λ r. all_result (then_more r next)) h
stop-more (Fault m at) now q next g h = ap (λ r. all_result (then_more r next)) h
stop-more Going now q next g h = ap (λ r. all_result (then_more r next)) h

pub stop-more_named : (stop : Interruption) (now : Running) (q : Result) (next : Value → Running → NamedResults) → ((v : Value) (last : Running) → Grown last (named_result (next v last))) → Interrupted stop now q → Interrupted stop now (named_result (then_named q next))
stop-more_named NoMemory now q next g h = grown-more_named now q next h g
stop-more_named (Raised k vs) now q next g h = ap (λ r. named_result (then_named r next)) h
stop-more_named (Fault m at) now q next g h = ap (λ r. named_result (then_named r next)) h
stop-more_named Going now q next g h = ap (λ r. named_result (then_named r next)) h

pub stop-statement : (stop : Interruption) (now : Running) (q : Result) (next : Value → Running → Stated) → ((v : Value) (last : Running) → Grown last (stated_result (next v last))) → Interrupted stop now q → Interrupted stop now (stated_result (then_stated q next))
stop-statement NoMemory now q next g h = grown-statement now q next h g
stop-statement (Raised k vs) now q next g h = ap (λ r. stated_result (then_stated r next)) h
stop-statement (Fault m at) now q next g h = ap (λ r. stated_result (then_stated r next)) h
stop-statement Going now q next g h = ap (λ r. stated_result (then_stated r next)) h

-- ---- values that were given before
abbrev pub ahead : List code.Value → Results → Results
ahead [] r = r
ahead (v ∷ vs) r = before_rest (view v) (ahead vs r)

pub ahead-more : (vs : List code.Value) (v : code.Value) (r : Results) → ahead (vs ++ v ∷ []) r ≡ ahead vs (before_rest (view v) r)
ahead-more [] v r = refl
ahead-more (u ∷ vs) v r = ap (before_rest (view u)) (ahead-more vs v r)

pub ahead-all : (vs : List code.Value) (now : Running) → ahead vs (GiveAll no_values now) ≡ GiveAll (list_values vs) now
ahead-all [] now = refl
ahead-all (v ∷ vs) now = ap (before_rest (view v)) (ahead-all vs now)

stop-before : (stop : Interruption) (now : Running) (v : Value) (r : Results) → Interrupted stop now (all_result r) → Interrupted stop now (all_result (before_rest v r))
stop-before NoMemory now v (GiveAll us last) h = record { rest = h.rest; writes = h.writes; packet = h.packet }
stop-before NoMemory now v (Breaks how) h = h
stop-before (Raised k vs) now v (GiveAll us last) h = cc
stop-before (Raised k vs) now v (Breaks how) h = h
stop-before (Fault m at) now v (GiveAll us last) h = cc
stop-before (Fault m at) now v (Breaks how) h = h
stop-before Going now v (GiveAll us last) h = cc
stop-before Going now v (Breaks how) h = h

pub stop-ahead : (stop : Interruption) (now : Running) (vs : List code.Value) (r : Results) → Interrupted stop now (all_result r) → Interrupted stop now (all_result (ahead vs r))
stop-ahead stop now [] r h = h
stop-ahead stop now (v ∷ vs) r h = stop-before stop now (view v) (ahead vs r) (stop-ahead stop now vs r h)

abbrev pub ahead_named : List Named → NamedResults → NamedResults
ahead_named [] r = r
ahead_named (f ∷ fs) r = before_named f.0.now (view f.1) (ahead_named fs r)

pub ahead_named-more : (fs : List Named) (f : Named) (r : NamedResults) → ahead_named (fs ++ f ∷ []) r ≡ ahead_named fs (before_named f.0.now (view f.1) r)
ahead_named-more [] f r = refl
ahead_named-more (g ∷ fs) f r = ap (before_named g.0.now (view g.1)) (ahead_named-more fs f r)

pub ahead_named-all : (fs : List Named) (now : Running) → ahead_named fs (GiveNamed no_named_values now) ≡ GiveNamed (list_named_values fs) now
ahead_named-all [] now = refl
ahead_named-all (f ∷ fs) now = ap (before_named f.0.now (view f.1)) (ahead_named-all fs now)

stop-before_named : (stop : Interruption) (now : Running) (x : List ℕ) (v : Value) (r : NamedResults) → Interrupted stop now (named_result r) → Interrupted stop now (named_result (before_named x v r))
stop-before_named NoMemory now x v (GiveNamed us last) h = record { rest = h.rest; writes = h.writes; packet = h.packet }
stop-before_named NoMemory now x v (BreaksNamed how) h = h
stop-before_named (Raised k vs) now x v (GiveNamed us last) h = cc
stop-before_named (Raised k vs) now x v (BreaksNamed how) h = h
stop-before_named (Fault m at) now x v (GiveNamed us last) h = cc
stop-before_named (Fault m at) now x v (BreaksNamed how) h = h
stop-before_named Going now x v (GiveNamed us last) h = cc
stop-before_named Going now x v (BreaksNamed how) h = h

pub stop-ahead_named : (stop : Interruption) (now : Running) (fs : List Named) (r : NamedResults) → Interrupted stop now (named_result r) → Interrupted stop now (named_result (ahead_named fs r))
stop-ahead_named stop now [] r h = h
stop-ahead_named stop now (f ∷ fs) r h = stop-before_named stop now f.0.now (view f.1) (ahead_named fs r) (stop-ahead_named stop now fs r h)
