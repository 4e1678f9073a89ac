-- With one call more a run comes at least as far.
use Rattle.std.proofs.Common.{◌≡◌, ℕ, zero, suc, ◌==◌, Bool, true, false, List, [], ◌∷◌, ◌++◌, refl, sym, ap, subst, ◌⊎◌, inl, inr, if◌then◌else◌, Option, Some, None, length, slice_get}
use Rattle.nv_base.specs.declared.outcome.Outcome.TheVariants.{Going}
use Rattle.nv_base.specs.declared.term.Mem.{Mem}
use Rattle.nv_base.specs.Memories.{Memories, fetched, stored}
use Rattle.nv_base.specs.Meanings.{IsPrefix}
use Rattle.nv_base.specs.Progress.{Before, IsMonotone}
use Rattle.nv_base.specs.Words.{Env, assigned, assigned_all, atom_word, atom_words, prim_word, compares}
use Rattle.nv_base.proofs.Same.{prefix-refl, prefix-trans, before-equal, before-going, monotone_by_steps}
use Rattle.flat_ir.specs.declared.flat.Flat.{Flat}
use Rattle.flat_ir.specs.declared.flat.Flat.TheVariants.{Let', Fetch', Store', If', Bind', Call, Raise, Try', Give}
use Rattle.flat_ir.specs.declared.flat.FlatFun.{FlatFun}
use Rattle.nv_base.specs.Running.{Running}
use Rattle.flat_ir.specs.Running.{Result, Gives, Raises, Halts, and_then, handled, after_fetch, after_store, taken, closed}
use Rattle.flat_ir.specs.Meaning.{Calls, does, blank, enter, calls_within, flat_meaning}

-- ---- writes are only added

abbrev pub now_of : Result → Running
now_of (Gives ws now) = now
now_of (Raises k ws now) = now
now_of (Halts how now) = now

abbrev pub Grown : Running → Result → Type 0
Grown now r = IsPrefix now.writes (now_of r).writes

abbrev pub Growing : Calls → Type 0
Growing call = (f : ℕ) (ws : List ℕ) (now : Running) → Grown now (call f ws now)

grown-further : (a b : Running) (r : Result) → IsPrefix a.writes b.writes → Grown b r → Grown a r
grown-further a b r p g = prefix-trans a.writes b.writes (now_of r).writes p g

grown-then : (now : Running) (q : Result) (next : List ℕ → Running → Result) → Grown now q → ((ws : List ℕ) (last : Running) → Grown last (next ws last)) → Grown now (and_then q next)
grown-then now (Gives ws last) next g h = grown-further now last (next ws last) g (h ws last)
grown-then now (Raises k ws last) next g h = g
grown-then now (Halts how last) next g h = g

grown-if : (b : Bool) (now : Running) (q r : Result) → Grown now q → Grown now r → Grown now (if b then q else r)
grown-if true now q r g h = g
grown-if false now q r g h = h

grown-handled : (k : ℕ) (now : Running) (handler : List ℕ → Running → Result) (q : Result) → Grown now q → ((ws : List ℕ) (last : Running) → Grown last (handler ws last)) → Grown now (handled k handler q)
grown-handled k now handler (Gives ws last) g h = g
grown-handled k now handler (Raises j ws last) g h = grown-if (j == k) now (handler ws last) (Raises j ws last) (grown-further now last (handler ws last) g (h ws last)) g
grown-handled k now handler (Halts how last) g h = g

grown-fetch : (m : Mem) (at : ℕ) (found : Option (List ℕ)) (now : Running) (next : List ℕ → Result) → ((ws : List ℕ) → Grown now (next ws)) → Grown now (after_fetch m at found now next)
grown-fetch m at (Some ws) now next h = h ws
grown-fetch m at None now next h = prefix-refl now.writes

grown-store : (m : Mem) (at : ℕ) (ws : List ℕ) (found : Option Memories) (now : Running) (next : Running → Result) → ((last : Running) → Grown last (next last)) → Grown now (after_store m at ws found now next)
grown-store m at ws (Some p) now next h =
    let last : Running = record { calls = now.calls; packet = p; writes = now.writes ++ record { mem = m; at = at; words = ws } ∷ [] } in
    grown-further now last (next last) (record { mem = m; at = at; words = ws } ∷ [], refl) (h last)
grown-store m at ws None now next h = prefix-refl now.writes

pub does-grows : (call : Calls) → Growing call → (t : Flat) (env : Env) (now : Running) → Grown now (does call t env now)
does-grows call g (Let' x a q t) env now = does-grows call g t (assigned env x (prim_word env a)) now
does-grows call g (Fetch' m xs a q t) env now =
    grown-fetch m (atom_word env a) (fetched m (atom_word env a) (length xs.items) now.packet) now (λ ws. does call t (assigned_all env xs.items ws) now) (λ ws. does-grows call g t (assigned_all env xs.items ws) now)
does-grows call g (Store' m a bs q t) env now =
    grown-store m (atom_word env a) (atom_words env bs.items) (stored m (atom_word env a) (atom_words env bs.items) now.packet) now (λ next. does call t env next) (λ next. does-grows call g t env next)
does-grows call g (If' c a b q t r u) env now = grown-if (compares c (atom_word env a) (atom_word env b)) now (does call t env now) (does call u env now) (does-grows call g t env now) (does-grows call g u env now)
does-grows call g (Bind' xs q t r u) env now =
    grown-then now (does call t env now) (λ ws next. does call u (assigned_all env xs.items ws) next) (does-grows call g t env now) (λ ws next. does-grows call g u (assigned_all env xs.items ws) next)
does-grows call g (Call f bs) env now = g f (atom_words env bs.items) now
does-grows call g (Raise k bs) env now = prefix-refl now.writes
does-grows call g (Try' q t k xs r u) env now =
    grown-handled k now (λ ws next. does call u (assigned_all env xs.items ws) next) (does call t env now) (does-grows call g t env now) (λ ws next. does-grows call g u (assigned_all env xs.items ws) next)
does-grows call g (Give bs) env now = prefix-refl now.writes

pub enter-grows : (call : Calls) → Growing call → (f : Option FlatFun) (ws : List ℕ) (now : Running) → Grown now (enter call f ws now)
enter-grows call g (Some f) ws now = does-grows call g f.body (assigned_all blank f.params.items ws) now
enter-grows call g None ws now = prefix-refl now.writes

taken-grows : (left : ℕ) (now : Running) (next : Running → Result) → ((last : Running) → Grown last (next last)) → Grown now (taken left now next)
taken-grows zero now next h = prefix-refl now.writes
taken-grows (suc left) now next h = h (record { calls = left; packet = now.packet; writes = now.writes })

pub calls-grow : (depth : ℕ) (funs : List FlatFun) → Growing (calls_within depth funs)
calls-grow zero funs f ws now = prefix-refl now.writes
calls-grow (suc depth) funs f ws now = taken-grows now.calls now _ (λ next. enter-grows (calls_within depth funs) (calls-grow depth funs) (slice_get funs f) ws next)

-- ---- one call more

abbrev pub more : Running → Running
more now = record { calls = suc now.calls; packet = now.packet; writes = now.writes }

-- the second is the first with a call more left, or the first is going on and its writes are the first of the second's
abbrev pub Further : Result → Result → Type 0
Further (Gives ws now) r = r ≡ Gives ws (more now)
Further (Raises k ws now) r = r ≡ Raises k ws (more now)
Further (Halts how now) r = (r ≡ Halts how (more now)) ⊎ ((how ≡ Going) × Grown now r)

abbrev pub CallsFurther : Calls → Calls → Type 0
CallsFurther call call' = (f : ℕ) (ws : List ℕ) (now : Running) → Further (call f ws now) (call' f ws (more now))

further-along : (q r r' : Result) → r ≡ r' → Further q r' → Further q r
further-along q r r' e h = subst (Further q) (sym e) h

further-then : (q r : Result) (next next' : List ℕ → Running → Result) → Further q r
    → ((ws : List ℕ) (last : Running) → Further (next ws last) (next' ws (more last))) → ((ws : List ℕ) (last : Running) → Grown last (next' ws last)) → Further (and_then q next) (and_then r next')
further-then (Gives ws last) r next next' h further grows = further-along (next ws last) (and_then r next') (next' ws (more last)) (ap (λ x. and_then x next') h) (further ws last)
further-then (Raises k ws last) r next next' h further grows = ap (λ x. and_then x next') h
further-then (Halts how last) r next next' (inl e) further grows = inl (ap (λ x. and_then x next') e)
further-then (Halts how last) r next next' (inr p) further grows = inr (p.0, grown-then last r next' p.1 grows)

further-if : (b : Bool) (q q' r r' : Result) → Further q r → Further q' r' → Further (if b then q else q') (if b then r else r')
further-if true q q' r r' g h = g
further-if false q q' r r' g h = h

further-handled : (k : ℕ) (handler handler' : List ℕ → Running → Result) (q r : Result) → Further q r
    → ((ws : List ℕ) (last : Running) → Further (handler ws last) (handler' ws (more last))) → ((ws : List ℕ) (last : Running) → Grown last (handler' ws last)) → Further (handled k handler q) (handled k handler' r)
further-handled k handler handler' (Gives ws last) r h further grows = ap (handled k handler') h
further-handled k handler handler' (Raises j ws last) r h further grows =
    further-along (handled k handler (Raises j ws last)) (handled k handler' r) (handled k handler' (Raises j ws (more last))) (ap (handled k handler') h)
    (further-if (j == k) (handler ws last) (Raises j ws last) (handler' ws (more last)) (Raises j ws (more last)) (further ws last) refl)
further-handled k handler handler' (Halts how last) r (inl e) further grows = inl (ap (handled k handler') e)
further-handled k handler handler' (Halts how last) r (inr p) further grows = inr (p.0, grown-handled k last handler' r p.1 grows)

further-fetch : (m : Mem) (at : ℕ) (found : Option (List ℕ)) (now : Running) (next next' : List ℕ → Result) → ((ws : List ℕ) → Further (next ws) (next' ws)) → Further (after_fetch m at found now next) (after_fetch m at found (more now) next')
further-fetch m at (Some ws) now next next' h = h ws
further-fetch m at None now next next' h = inl refl

further-store : (m : Mem) (at : ℕ) (ws : List ℕ) (found : Option Memories) (now : Running) (next next' : Running → Result) → ((last : Running) → Further (next last) (next' (more last)))
    → Further (after_store m at ws found now next) (after_store m at ws found (more now) next')
further-store m at ws (Some p) now next next' h = h (record { calls = now.calls; packet = p; writes = now.writes ++ record { mem = m; at = at; words = ws } ∷ [] })
further-store m at ws None now next next' h = inl refl

pub does-further : (call call' : Calls) → CallsFurther call call' → Growing call' → (t : Flat) (env : Env) (now : Running) → Further (does call t env now) (does call' t env (more now))
does-further call call' h g (Let' x a q t) env now = does-further call call' h g t (assigned env x (prim_word env a)) now
does-further call call' h g (Fetch' m xs a q t) env now =
    further-fetch m (atom_word env a) (fetched m (atom_word env a) (length xs.items) now.packet) now (λ ws. does call t (assigned_all env xs.items ws) now) (λ ws. does call' t (assigned_all env xs.items ws) (more now))
    (λ ws. does-further call call' h g t (assigned_all env xs.items ws) now)
does-further call call' h g (Store' m a bs q t) env now =
    further-store m (atom_word env a) (atom_words env bs.items) (stored m (atom_word env a) (atom_words env bs.items) now.packet) now (λ next. does call t env next) (λ next. does call' t env next)
    (λ next. does-further call call' h g t env next)
does-further call call' h g (If' c a b q t r u) env now =
    further-if (compares c (atom_word env a) (atom_word env b)) (does call t env now) (does call u env now) (does call' t env (more now)) (does call' u env (more now)) (does-further call call' h g t env now) (does-further call call' h g u env now)
does-further call call' h g (Bind' xs q t r u) env now =
    further-then (does call t env now) (does call' t env (more now)) (λ ws next. does call u (assigned_all env xs.items ws) next) (λ ws next. does call' u (assigned_all env xs.items ws) next)
    (does-further call call' h g t env now) (λ ws next. does-further call call' h g u (assigned_all env xs.items ws) next) (λ ws next. does-grows call' g u (assigned_all env xs.items ws) next)
does-further call call' h g (Call f bs) env now = h f (atom_words env bs.items) now
does-further call call' h g (Raise k bs) env now = refl
does-further call call' h g (Try' q t k xs r u) env now =
    further-handled k (λ ws next. does call u (assigned_all env xs.items ws) next) (λ ws next. does call' u (assigned_all env xs.items ws) next) (does call t env now) (does call' t env (more now))
    (does-further call call' h g t env now) (λ ws next. does-further call call' h g u (assigned_all env xs.items ws) next) (λ ws next. does-grows call' g u (assigned_all env xs.items ws) next)
does-further call call' h g (Give bs) env now = refl

enter-further : (call call' : Calls) → CallsFurther call call' → Growing call' → (f : Option FlatFun) (ws : List ℕ) (now : Running) → Further (enter call f ws now) (enter call' f ws (more now))
enter-further call call' h g (Some f) ws now = does-further call call' h g f.body (assigned_all blank f.params.items ws) now
enter-further call call' h g None ws now = inl refl

taken-further : (left : ℕ) (now : Running) (next next' : Running → Result) → ((last : Running) → Further (next last) (next' (more last))) → ((last : Running) → Grown last (next' last)) → now.calls ≡ left
    → Further (taken left now next) (taken (suc left) (more now) next')
taken-further zero now next next' further grows e = inr (refl, grows (record { calls = 0; packet = now.packet; writes = now.writes }))
taken-further (suc left) now next next' further grows e = further (record { calls = left; packet = now.packet; writes = now.writes })

pub calls-further : (depth : ℕ) (funs : List FlatFun) → CallsFurther (calls_within depth funs) (calls_within (suc depth) funs)
calls-further zero funs f ws now = inr (refl, calls-grow 1 funs f ws (more now))
calls-further (suc depth) funs f ws now =
    taken-further now.calls now (λ next. enter (calls_within depth funs) (slice_get funs f) ws next) (λ next. enter (calls_within (suc depth) funs) (slice_get funs f) ws next)
    (λ next. enter-further (calls_within depth funs) (calls_within (suc depth) funs) (calls-further depth funs) (calls-grow (suc depth) funs) (slice_get funs f) ws next)
    (λ next. enter-grows (calls_within (suc depth) funs) (calls-grow (suc depth) funs) (slice_get funs f) ws next) refl

-- ---- a whole run

closed-writes : (r : Result) → (closed r).writes ≡ (now_of r).writes
closed-writes (Gives ws now) = refl
closed-writes (Raises k ws now) = refl
closed-writes (Halts how now) = refl

closed-before : (q r : Result) → Further q r → Before (closed q) (closed r)
closed-before (Gives ws now) r h = before-equal _ _ (sym (ap closed h))
closed-before (Raises k ws now) r h = before-equal _ _ (sym (ap closed h))
closed-before (Halts how now) r (inl e) = before-equal _ _ (sym (ap closed e))
closed-before (Halts how now) r (inr p) = before-going _ _ p.0 (subst (IsPrefix now.writes) (sym (closed-writes r)) p.1)

-- with more calls a run comes at least as far
pub meaning-grows : (funs : List FlatFun) (main : ℕ) (args : List ℕ) (p : Memories) → IsMonotone (flat_meaning funs main args p)
meaning-grows funs main args p =
    monotone_by_steps (flat_meaning funs main args p)
    (λ i. closed-before (enter (calls_within i funs) (slice_get funs main) args (record { calls = i; packet = p; writes = [] })) (enter (calls_within (suc i) funs) (slice_get funs main) args (record { calls = suc i; packet = p; writes = [] }))
    (enter-further (calls_within i funs) (calls_within (suc i) funs) (calls-further i funs) (calls-grow (suc i) funs) (slice_get funs main) args (record { calls = i; packet = p; writes = [] })))
