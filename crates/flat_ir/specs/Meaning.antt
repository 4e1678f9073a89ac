-- What flat code and flat programs mean: by recursion on the code and on the number of calls, over words.
use Rattle.std.specs.Prelude.{ℕ, zero, suc, List, [], Option, Some, None, slice_get, length, if◌then◌else◌}
use Rattle.nv_base.specs.declared.outcome.Outcome.TheVariants as outcome
use Rattle.nv_base.specs.Memories.{Memories}
use Rattle.nv_base.specs.Meanings.{Meaning}
use Rattle.nv_base.specs.Words.{Env, assigned, assigned_all, atom_word, atom_words, prim_word, compares}
use Rattle.flat_ir.specs.declared.flat.Flat.{Flat}
use Rattle.flat_ir.specs.declared.flat.Flat.TheVariants.{Let', Fetch', Store', If', Bind', Call, Raise, Try', Give}
use Rattle.flat_ir.specs.declared.flat.FlatFun.{FlatFun}
use Rattle.nv_base.specs.Running.{Running}
use Rattle.flat_ir.specs.Running.{Result, Gives, Raises, Halts, and_then, handled, fetch, store, taken, closed}

-- what a call of a function, by its number, with these words comes to
abbrev pub Calls : Type 0
Calls = ℕ → List ℕ → Running → Result

-- what code comes to under an assignment of words to variables
abbrev pub does : Calls → Flat → Env → Running → Result
does call (Let' x a q t) env now = does call t (assigned env x (prim_word env a)) now
does call (Fetch' m xs a q t) env now = fetch m (length xs.items) (atom_word env a) now (λ ws. does call t (assigned_all env xs.items ws) now)
does call (Store' m a bs q t) env now = store m (atom_word env a) (atom_words env bs.items) now (λ next. does call t env next)
does call (If' c a b q t r u) env now = if compares c (atom_word env a) (atom_word env b) then does call t env now else does call u env now
does call (Bind' xs q t r u) env now = and_then (does call t env now) (λ ws next. does call u (assigned_all env xs.items ws) next)
does call (Call f bs) env now = call f (atom_words env bs.items) now
does call (Raise k bs) env now = Raises k (atom_words env bs.items) now
does call (Try' q t k xs r u) env now = handled k (λ ws next. does call u (assigned_all env xs.items ws) next) (does call t env now)
does call (Give bs) env now = Gives (atom_words env bs.items) now

-- the assignment in which every variable has the word 0
abbrev pub blank : Env
blank = λ x. 0

-- what the body of a function comes to; a call of no function is going for ever
abbrev pub enter : Calls → Option FlatFun → List ℕ → Running → Result
enter call (Some f) ws now = does call f.body (assigned_all blank f.params.items ws) now
enter call None ws now = Halts outcome.Going now

-- calls that lie at most so deep in one another. The n calls of a run are counted in the run itself, wherever they stand,
-- and n calls never lie deeper than n.
abbrev pub calls_within : ℕ → List FlatFun → Calls
calls_within zero funs f ws now = Halts outcome.Going now
calls_within (suc depth) funs f ws now = taken now.calls now (λ next. enter (calls_within depth funs) (slice_get funs f) ws next)

-- the meaning of a program on these words and memories: its full outcome for each number of calls; the start of main takes none
abbrev pub flat_meaning : List FlatFun → ℕ → List ℕ → Memories → Meaning
flat_meaning funs main args p n = closed (enter (calls_within n funs) (slice_get funs main) args (record { calls = n; packet = p; writes = [] }))
