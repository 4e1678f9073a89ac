-- Calls are only used up, and a depth that is at least the calls left is as good as any other.
use Rattle.std.proofs.Common.{◌≡◌, ℕ, zero, suc, ◌≤◌, ◌==◌, Bool, true, false, List, [], ◌∷◌, ◌++◌, refl, sym, ap, ◌∙◌, if◌then◌else◌, Option, Some, None, length, slice_get, arith}
use Rattle.nv_base.specs.declared.outcome.Outcome.TheVariants.{Going}
use Rattle.nv_base.specs.declared.term.Mem.{Mem}
use Rattle.nv_base.specs.Memories.{Memories, fetched, stored}
use Rattle.nv_base.specs.Words.{Env, assigned, assigned_all, atom_word, atom_words, prim_word, compares}
use Rattle.flat_ir.specs.declared.flat.Flat.{Flat}
use Rattle.flat_ir.specs.declared.flat.Flat.TheVariants.{Let', Fetch', Store', If', Bind', Call, Raise, Try', Give}
use Rattle.flat_ir.specs.declared.flat.FlatFun.{FlatFun}
use Rattle.nv_base.specs.Running.{Running}
use Rattle.flat_ir.specs.Running.{Result, Gives, Raises, Halts, and_then, handled, after_fetch, after_store, taken}
use Rattle.flat_ir.specs.Meaning.{Calls, does, blank, enter, calls_within}
use Rattle.flat_ir.proofs.Growth.{now_of}
use Rattle.flat_ir.proofs.Agreement.{if-same}

-- at most so many calls are left
abbrev pub Left : ℕ → Result → Type 0
Left n r = (now_of r).calls ≤ n

abbrev pub Using : Calls → Type 0
Using call = (n f : ℕ) (ws : List ℕ) (now : Running) → now.calls ≤ n → Left n (call f ws now)

left-then : (n : ℕ) (q : Result) (next : List ℕ → Running → Result) → Left n q → ((ws : List ℕ) (last : Running) → last.calls ≤ n → Left n (next ws last)) → Left n (and_then q next)
left-then n (Gives ws last) next g h = h ws last g
left-then n (Raises k ws last) next g h = g
left-then n (Halts how last) next g h = g

left-if : (b : Bool) (n : ℕ) (q r : Result) → Left n q → Left n r → Left n (if b then q else r)
left-if true n q r g h = g
left-if false n q r g h = h

left-handled : (k n : ℕ) (handler : List ℕ → Running → Result) (q : Result) → Left n q → ((ws : List ℕ) (last : Running) → last.calls ≤ n → Left n (handler ws last)) → Left n (handled k handler q)
left-handled k n handler (Gives ws last) g h = g
left-handled k n handler (Raises j ws last) g h = left-if (j == k) n (handler ws last) (Raises j ws last) (h ws last g) g
left-handled k n handler (Halts how last) g h = g

left-fetch : (m : Mem) (at n : ℕ) (found : Option (List ℕ)) (now : Running) (next : List ℕ → Result) → now.calls ≤ n → ((ws : List ℕ) → Left n (next ws)) → Left n (after_fetch m at found now next)
left-fetch m at n (Some ws) now next le h = h ws
left-fetch m at n None now next le h = le

left-store : (m : Mem) (at n : ℕ) (ws : List ℕ) (found : Option Memories) (now : Running) (next : Running → Result) → now.calls ≤ n → ((last : Running) → last.calls ≤ n → Left n (next last)) → Left n (after_store m at ws found now next)
left-store m at n ws (Some p) now next le h = h (record { calls = now.calls; packet = p; writes = now.writes ++ record { mem = m; at = at; words = ws } ∷ [] }) le
left-store m at n ws None now next le h = le

pub does-left : (call : Calls) → Using call → (n : ℕ) (t : Flat) (env : Env) (now : Running) → now.calls ≤ n → Left n (does call t env now)
does-left call g n (Let' x a q t) env now le = does-left call g n t (assigned env x (prim_word env a)) now le
does-left call g n (Fetch' m xs a q t) env now le =
    left-fetch m (atom_word env a) n (fetched m (atom_word env a) (length xs.items) now.packet) now (λ ws. does call t (assigned_all env xs.items ws) now) le (λ ws. does-left call g n t (assigned_all env xs.items ws) now le)
does-left call g n (Store' m a bs q t) env now le =
    left-store m (atom_word env a) n (atom_words env bs.items) (stored m (atom_word env a) (atom_words env bs.items) now.packet) now (λ next. does call t env next) le (λ next le'. does-left call g n t env next le')
does-left call g n (If' c a b q t r u) env now le =
    left-if (compares c (atom_word env a) (atom_word env b)) n (does call t env now) (does call u env now) (does-left call g n t env now le) (does-left call g n u env now le)
does-left call g n (Bind' xs q t r u) env now le =
    left-then n (does call t env now) (λ ws next. does call u (assigned_all env xs.items ws) next) (does-left call g n t env now le) (λ ws next le'. does-left call g n u (assigned_all env xs.items ws) next le')
does-left call g n (Call f bs) env now le = g n f (atom_words env bs.items) now le
does-left call g n (Raise k bs) env now le = le
does-left call g n (Try' q t k xs r u) env now le =
    left-handled k n (λ ws next. does call u (assigned_all env xs.items ws) next) (does call t env now) (does-left call g n t env now le) (λ ws next le'. does-left call g n u (assigned_all env xs.items ws) next le')
does-left call g n (Give bs) env now le = le

enter-left : (call : Calls) → Using call → (n : ℕ) (f : Option FlatFun) (ws : List ℕ) (now : Running) → now.calls ≤ n → Left n (enter call f ws now)
enter-left call g n (Some f) ws now le = does-left call g n f.body (assigned_all blank f.params.items ws) now le
enter-left call g n None ws now le = le

taken-left : (left n : ℕ) (now : Running) (next : Running → Result) → left ≡ now.calls → now.calls ≤ n → ((last : Running) → last.calls ≤ n → Left n (next last)) → Left n (taken left now next)
taken-left zero n now next e le h = le
taken-left (suc left) n now next e le h = h (record { calls = left; packet = now.packet; writes = now.writes }) (omega arith)

pub calls-left : (depth : ℕ) (funs : List FlatFun) → Using (calls_within depth funs)
calls-left zero funs n f ws now le = le
calls-left (suc depth) funs n f ws now le =
    taken-left now.calls n now (λ next. enter (calls_within depth funs) (slice_get funs f) ws next) refl le (λ next le'. enter-left (calls_within depth funs) (calls-left depth funs) n (slice_get funs f) ws next le')

-- ---- with so many calls left, the two come to the same

abbrev pub SameFor : ℕ → Calls → Calls → Type 0
SameFor n call call' = (f : ℕ) (ws : List ℕ) (now : Running) → now.calls ≤ n → call f ws now ≡ call' f ws now

then-deep : (n : ℕ) (q r : Result) (next next' : List ℕ → Running → Result) → q ≡ r → Left n q → ((ws : List ℕ) (last : Running) → last.calls ≤ n → next ws last ≡ next' ws last) → and_then q next ≡ and_then r next'
then-deep n q r next next' e le h = here q le ∙ ap (λ x. and_then x next') e
  where
    here : (q : Result) → Left n q → and_then q next ≡ and_then q next'
    here (Gives ws last) le = h ws last le
    here (Raises k ws last) le = refl
    here (Halts how last) le = refl

handled-deep : (k n : ℕ) (next next' : List ℕ → Running → Result) (q r : Result) → q ≡ r → Left n q → ((ws : List ℕ) (last : Running) → last.calls ≤ n → next ws last ≡ next' ws last) → handled k next q ≡ handled k next' r
handled-deep k n next next' q r e le h = here q le ∙ ap (handled k next') e
  where
    here : (q : Result) → Left n q → handled k next q ≡ handled k next' q
    here (Gives ws last) le = refl
    here (Raises j ws last) le = if-same (j == k) (next ws last) (Raises j ws last) (next' ws last) (Raises j ws last) (h ws last le) refl
    here (Halts how last) le = refl

fetch-deep : (m : Mem) (at : ℕ) (found : Option (List ℕ)) (now : Running) (next next' : List ℕ → Result) → ((ws : List ℕ) → next ws ≡ next' ws) → after_fetch m at found now next ≡ after_fetch m at found now next'
fetch-deep m at (Some ws) now next next' h = h ws
fetch-deep m at None now next next' h = refl

store-deep : (m : Mem) (at n : ℕ) (ws : List ℕ) (found : Option Memories) (now : Running) (next next' : Running → Result) → now.calls ≤ n → ((last : Running) → last.calls ≤ n → next last ≡ next' last)
    → after_store m at ws found now next ≡ after_store m at ws found now next'
store-deep m at n ws (Some p) now next next' le h = h (record { calls = now.calls; packet = p; writes = now.writes ++ record { mem = m; at = at; words = ws } ∷ [] }) le
store-deep m at n ws None now next next' le h = refl

pub does-deep : (n : ℕ) (call call' : Calls) → Using call → SameFor n call call' → (t : Flat) (env : Env) (now : Running) → now.calls ≤ n → does call t env now ≡ does call' t env now
does-deep n call call' g h (Let' x a q t) env now le = does-deep n call call' g h t (assigned env x (prim_word env a)) now le
does-deep n call call' g h (Fetch' m xs a q t) env now le =
    fetch-deep m (atom_word env a) (fetched m (atom_word env a) (length xs.items) now.packet) now (λ ws. does call t (assigned_all env xs.items ws) now) (λ ws. does call' t (assigned_all env xs.items ws) now)
    (λ ws. does-deep n call call' g h t (assigned_all env xs.items ws) now le)
does-deep n call call' g h (Store' m a bs q t) env now le =
    store-deep m (atom_word env a) n (atom_words env bs.items) (stored m (atom_word env a) (atom_words env bs.items) now.packet) now (λ next. does call t env next) (λ next. does call' t env next) le
    (λ next le'. does-deep n call call' g h t env next le')
does-deep n call call' g h (If' c a b q t r u) env now le =
    if-same (compares c (atom_word env a) (atom_word env b)) (does call t env now) (does call u env now) (does call' t env now) (does call' u env now) (does-deep n call call' g h t env now le) (does-deep n call call' g h u env now le)
does-deep n call call' g h (Bind' xs q t r u) env now le =
    then-deep n (does call t env now) (does call' t env now) (λ ws next. does call u (assigned_all env xs.items ws) next) (λ ws next. does call' u (assigned_all env xs.items ws) next)
    (does-deep n call call' g h t env now le) (does-left call g n t env now le) (λ ws next le'. does-deep n call call' g h u (assigned_all env xs.items ws) next le')
does-deep n call call' g h (Call f bs) env now le = h f (atom_words env bs.items) now le
does-deep n call call' g h (Raise k bs) env now le = refl
does-deep n call call' g h (Try' q t k xs r u) env now le =
    handled-deep k n (λ ws next. does call u (assigned_all env xs.items ws) next) (λ ws next. does call' u (assigned_all env xs.items ws) next) (does call t env now) (does call' t env now)
    (does-deep n call call' g h t env now le) (does-left call g n t env now le) (λ ws next le'. does-deep n call call' g h u (assigned_all env xs.items ws) next le')
does-deep n call call' g h (Give bs) env now le = refl

enter-deep : (n : ℕ) (call call' : Calls) → Using call → SameFor n call call' → (f : Option FlatFun) (ws : List ℕ) (now : Running) → now.calls ≤ n → enter call f ws now ≡ enter call' f ws now
enter-deep n call call' g h (Some f) ws now le = does-deep n call call' g h f.body (assigned_all blank f.params.items ws) now le
enter-deep n call call' g h None ws now le = refl

taken-deep : (left d e : ℕ) (now : Running) (next next' : Running → Result) → left ≤ suc d → left ≤ suc e → ((last : Running) → last.calls ≤ d → last.calls ≤ e → next last ≡ next' last) → taken left now next ≡ taken left now next'
taken-deep zero d e now next next' p q h = refl
taken-deep (suc left) d e now next next' p q h = h (record { calls = left; packet = now.packet; writes = now.writes }) (omega arith) (omega arith)

none-left : (left : ℕ) (now : Running) (next : Running → Result) → left ≤ 0 → taken left now next ≡ Halts Going now
none-left zero now next le = refl
none-left (suc left) now next le = absurd (omega arith)

-- calls that are left matter, and not the depth
pub depth-same : (d e : ℕ) (funs : List FlatFun) (f : ℕ) (ws : List ℕ) (now : Running) → now.calls ≤ d → now.calls ≤ e → calls_within d funs f ws now ≡ calls_within e funs f ws now
depth-same zero zero funs f ws now p q = refl
depth-same zero (suc e) funs f ws now p q = sym (none-left now.calls now _ p)
depth-same (suc d) zero funs f ws now p q = none-left now.calls now _ q
depth-same (suc d) (suc e) funs f ws now p q =
    taken-deep now.calls d e now (λ next. enter (calls_within d funs) (slice_get funs f) ws next) (λ next. enter (calls_within e funs) (slice_get funs f) ws next) p q
    (λ next p' q'.
    enter-deep next.calls (calls_within d funs) (calls_within e funs) (calls-left d funs)
    (λ g vs last le. depth-same d e funs g vs last (omega arith) (omega arith)) (slice_get funs f) ws next (omega arith))
