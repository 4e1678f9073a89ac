-- The memories of a run follow its writes.
use Rattle.std.proofs.Common.{◌≡◌, ℕ, zero, suc, ◌==◌, Bool, true, false, List, [], refl, if◌then◌else◌, Option, Some, None, length, slice_get}
use Rattle.nv_base.specs.declared.term.Mem.{Mem}
use Rattle.nv_base.specs.Memories.{Memories, fetched, stored}
use Rattle.nv_base.specs.Meanings.{left_by}
use Rattle.nv_base.specs.Progress.{FollowsAll}
use Rattle.nv_base.specs.Running.{Running}
use Rattle.nv_base.specs.Words.{Env, assigned, assigned_all, atom_word, atom_words, prim_word, compares}
use Rattle.nv_base.proofs.Accesses.{with_store, store-follows}
use Rattle.flat_ir.specs.declared.flat.Flat.{Flat}
use Rattle.flat_ir.specs.declared.flat.Flat.TheVariants.{Let', Fetch', Store', If', Bind', Call, Raise, Try', Give}
use Rattle.flat_ir.specs.declared.flat.FlatFun.{FlatFun}
use Rattle.flat_ir.specs.Running.{Result, Gives, Raises, Halts, and_then, handled, after_fetch, after_store, taken, closed}
use Rattle.flat_ir.specs.Meaning.{Calls, does, blank, enter, calls_within, flat_meaning}
use Rattle.flat_ir.proofs.Growth.{now_of}

-- the memories are the first ones after the writes so far
abbrev pub Follows : Memories → Running → Type 0
Follows p now = now.packet ≡ left_by now.writes p

abbrev pub FollowsIn : Memories → Result → Type 0
FollowsIn p r = Follows p (now_of r)

abbrev pub Following : Memories → Calls → Type 0
Following p call = (f : ℕ) (ws : List ℕ) (now : Running) → Follows p now → FollowsIn p (call f ws now)

follow-then : (p : Memories) (q : Result) (next : List ℕ → Running → Result) → FollowsIn p q → ((ws : List ℕ) (last : Running) → Follows p last → FollowsIn p (next ws last)) → FollowsIn p (and_then q next)
follow-then p (Gives ws last) next g h = h ws last g
follow-then p (Raises k ws last) next g h = g
follow-then p (Halts how last) next g h = g

follow-if : (b : Bool) (p : Memories) (q r : Result) → FollowsIn p q → FollowsIn p r → FollowsIn p (if b then q else r)
follow-if true p q r g h = g
follow-if false p q r g h = h

follow-handled : (k : ℕ) (p : Memories) (handler : List ℕ → Running → Result) (q : Result) → FollowsIn p q → ((ws : List ℕ) (last : Running) → Follows p last → FollowsIn p (handler ws last)) → FollowsIn p (handled k handler q)
follow-handled k p handler (Gives ws last) g h = g
follow-handled k p handler (Raises j ws last) g h = follow-if (j == k) p (handler ws last) (Raises j ws last) (h ws last g) g
follow-handled k p handler (Halts how last) g h = g

follow-fetch : (m : Mem) (at : ℕ) (p : Memories) (found : Option (List ℕ)) (now : Running) (next : List ℕ → Result) → Follows p now → ((ws : List ℕ) → FollowsIn p (next ws)) → FollowsIn p (after_fetch m at found now next)
follow-fetch m at p (Some ws) now next g h = h ws
follow-fetch m at p None now next g h = g

follow-store : (m : Mem) (at : ℕ) (p : Memories) (ws : List ℕ) (found : Option Memories) (now : Running) (next : Running → Result) → stored m at ws now.packet ≡ found → Follows p now
    → ((last : Running) → Follows p last → FollowsIn p (next last)) → FollowsIn p (after_store m at ws found now next)
follow-store m at p ws (Some q) now next e g h =
    h (with_store m at ws q now) (store-follows m at ws q now p e g)
follow-store m at p ws None now next e g h = g

pub does-follows : (p : Memories) (call : Calls) → Following p call → (t : Flat) (env : Env) (now : Running) → Follows p now → FollowsIn p (does call t env now)
does-follows p call g (Let' x a q t) env now h = does-follows p call g t (assigned env x (prim_word env a)) now h
does-follows p call g (Fetch' m xs a q t) env now h =
    follow-fetch m (atom_word env a) p (fetched m (atom_word env a) (length xs.items) now.packet) now (λ ws. does call t (assigned_all env xs.items ws) now) h (λ ws. does-follows p call g t (assigned_all env xs.items ws) now h)
does-follows p call g (Store' m a bs q t) env now h =
    follow-store m (atom_word env a) p (atom_words env bs.items) (stored m (atom_word env a) (atom_words env bs.items) now.packet) now (λ next. does call t env next) refl h (λ next h'. does-follows p call g t env next h')
does-follows p call g (If' c a b q t r u) env now h =
    follow-if (compares c (atom_word env a) (atom_word env b)) p (does call t env now) (does call u env now) (does-follows p call g t env now h) (does-follows p call g u env now h)
does-follows p call g (Bind' xs q t r u) env now h =
    follow-then p (does call t env now) (λ ws next. does call u (assigned_all env xs.items ws) next) (does-follows p call g t env now h) (λ ws next h'. does-follows p call g u (assigned_all env xs.items ws) next h')
does-follows p call g (Call f bs) env now h = g f (atom_words env bs.items) now h
does-follows p call g (Raise k bs) env now h = h
does-follows p call g (Try' q t k xs r u) env now h =
    follow-handled k p (λ ws next. does call u (assigned_all env xs.items ws) next) (does call t env now) (does-follows p call g t env now h) (λ ws next h'. does-follows p call g u (assigned_all env xs.items ws) next h')
does-follows p call g (Give bs) env now h = h

enter-follows : (p : Memories) (call : Calls) → Following p call → (f : Option FlatFun) (ws : List ℕ) (now : Running) → Follows p now → FollowsIn p (enter call f ws now)
enter-follows p call g (Some f) ws now h = does-follows p call g f.body (assigned_all blank f.params.items ws) now h
enter-follows p call g None ws now h = h

taken-follows : (left : ℕ) (p : Memories) (now : Running) (next : Running → Result) → Follows p now → ((last : Running) → Follows p last → FollowsIn p (next last)) → FollowsIn p (taken left now next)
taken-follows zero p now next g h = g
taken-follows (suc left) p now next g h = h (record { calls = left; packet = now.packet; writes = now.writes }) g

pub calls-follow : (p : Memories) (depth : ℕ) (funs : List FlatFun) → Following p (calls_within depth funs)
calls-follow p zero funs f ws now h = h
calls-follow p (suc depth) funs f ws now h =
    taken-follows now.calls p now (λ next. enter (calls_within depth funs) (slice_get funs f) ws next) h (λ next h'. enter-follows p (calls_within depth funs) (calls-follow p depth funs) (slice_get funs f) ws next h')

follow-closed : (p : Memories) (r : Result) → FollowsIn p r → (closed r).packet ≡ left_by (closed r).writes p
follow-closed p (Gives ws now) h = h
follow-closed p (Raises k ws now) h = h
follow-closed p (Halts how now) h = h

pub meaning-follows : (funs : List FlatFun) (main : ℕ) (args : List ℕ) (p : Memories) → FollowsAll p (flat_meaning funs main args p)
meaning-follows funs main args p = λ i.
    let start : Running = record { calls = i; packet = p; writes = [] } in
    follow-closed p (enter (calls_within i funs) (slice_get funs main) args start) (enter-follows p (calls_within i funs) (calls-follow p i funs) (slice_get funs main) args start refl)
