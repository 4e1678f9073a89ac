-- Formed code makes words of words.
use Rattle.std.proofs.Common.{◌≡◌, ℕ, zero, suc, ◌==◌, Bool, true, false, List, [], ◌∷◌, ◌++◌, All, refl, if◌then◌else◌, Option, Some, None, length, slice_get}
use Rattle.nv_base.specs.declared.term.Mem.{Mem}
use Rattle.nv_base.specs.Memories.{Memories, HasSizes, fetched, stored}
use Rattle.nv_base.specs.Running.{Running}
use Rattle.nv_base.specs.Words.{IsWord, Env, IsEnv, assigned, assigned_all, atom_word, atom_words, prim_word, compares}
use Rattle.nv_base.proofs.Environments.{blank-env, assigned-env, assigned-all-env, atoms-fit, prim-fits}
use Rattle.nv_base.proofs.MemoryLemmas.{fetched-words, stored-sizes}
use Rattle.nv_base.proofs.Operands.{count_of_known}
use Rattle.flat_ir.specs.declared.flat.Flat.{Flat}
use Rattle.flat_ir.specs.declared.flat.Flat.TheVariants.{Let', Fetch', Store', If', Bind', Call, Raise, Try', Give}
use Rattle.flat_ir.specs.declared.flat.FlatFun.{FlatFun}
use Rattle.flat_ir.specs.Counts.{HoldsWords}
use Rattle.flat_ir.specs.Formed.{is_formed, is_program}
use Rattle.flat_ir.specs.Running.{Result, Gives, Raises, Halts, and_then, handled, after_fetch, after_store, taken}
use Rattle.flat_ir.specs.Meaning.{Calls, does, blank, enter, calls_within}
use Rattle.flat_ir.proofs.Counted.{body-formed}
use Rattle.flat_ir.proofs.FormedParts.{let-parts, fetch-parts, store-parts, if-parts, bind-parts, try-parts}

abbrev pub Keeping : Calls → Type 0
Keeping call = (f : ℕ) (ws : List ℕ) (now : Running) → All IsWord ws → HasSizes now.packet → HoldsWords (call f ws now)

abbrev pub Next : (List ℕ → Running → Result) → Type 0
Next next = (ws : List ℕ) (last : Running) → All IsWord ws → HasSizes last.packet → HoldsWords (next ws last)

words-then : (q : Result) (next : List ℕ → Running → Result) → HoldsWords q → Next next → HoldsWords (and_then q next)
words-then (Gives ws last) next g h = h ws last g.0 g.1
words-then (Raises k ws last) next g h = g
words-then (Halts how last) next g h = g

words-if : (b : Bool) (q r : Result) → HoldsWords q → HoldsWords r → HoldsWords (if b then q else r)
words-if true q r g h = g
words-if false q r g h = h

words-handled : (k : ℕ) (handler : List ℕ → Running → Result) (q : Result) → HoldsWords q → Next handler → HoldsWords (handled k handler q)
words-handled k handler (Gives ws last) g h = g
words-handled k handler (Raises j ws last) g h = words-if (j == k) (handler ws last) (Raises j ws last) (h ws last g.0 g.1) g
words-handled k handler (Halts how last) g h = g

words-fetch : (m : Mem) (at n : ℕ) (found : Option (List ℕ)) (now : Running) (next : List ℕ → Result) → fetched m at n now.packet ≡ found → HasSizes now.packet → ((ws : List ℕ) → All IsWord ws → HoldsWords (next ws))
    → HoldsWords (after_fetch m at found now next)
words-fetch m at n (Some ws) now next e g h = h ws (fetched-words m at n now.packet ws g e).1
words-fetch m at n None now next e g h = g

words-store : (m : Mem) (at : ℕ) (ws : List ℕ) (found : Option Memories) (now : Running) (next : Running → Result) → stored m at ws now.packet ≡ found → HasSizes now.packet → All IsWord ws
    → ((last : Running) → HasSizes last.packet → HoldsWords (next last)) → HoldsWords (after_store m at ws found now next)
words-store m at ws (Some p) now next e g f h = h (record { calls = now.calls; packet = p; writes = now.writes ++ record { mem = m; at = at; words = ws } ∷ [] }) (stored-sizes m at ws now.packet p g f e)
words-store m at ws None now next e g f h = g

pub does-words : (funs : List FlatFun) (call : Calls) → Keeping call → (own : ℕ) (tail : Bool) (n : ℕ) (known : List ℕ) (t : Flat) (env : Env) (now : Running) → is_formed funs own tail n known t ≡ true → IsEnv env → HasSizes now.packet
    → HoldsWords (does call t env now)
does-words funs call c own tail n known (Let' x a q t) env now e h g =
    let p = let-parts funs own tail n known x a q t e in
    does-words funs call c own tail n (x ∷ known) t (assigned env x (prim_word env a)) now p.rest (assigned-env env x (prim_word env a) h (prim-fits env a h (count_of_known known a p.primitive))) g
does-words funs call c own tail n known (Fetch' m xs a q t) env now e h g =
    let p = fetch-parts funs own tail n known m xs a q t e in
    words-fetch m (atom_word env a) (length xs.items) (fetched m (atom_word env a) (length xs.items) now.packet) now (λ ws. does call t (assigned_all env xs.items ws) now) refl g
    (λ ws f. does-words funs call c own tail n (xs.items ++ known) t (assigned_all env xs.items ws) now p.rest (assigned-all-env env xs.items ws h f) g)
does-words funs call c own tail n known (Store' m a bs q t) env now e h g =
    let p = store-parts funs own tail n known m a bs q t e in
    words-store m (atom_word env a) (atom_words env bs.items) (stored m (atom_word env a) (atom_words env bs.items) now.packet) now (λ next. does call t env next) refl g (atoms-fit env bs.items h)
    (λ next g'. does-words funs call c own tail n known t env next p.rest h g')
does-words funs call c own tail n known (If' o a b q t r u) env now e h g =
    let p = if-parts funs own tail n known o a b q t r u e in
    words-if (compares o (atom_word env a) (atom_word env b)) (does call t env now) (does call u env now) (does-words funs call c own tail n known t env now p.first h g) (does-words funs call c own tail n known u env now p.second h g)
does-words funs call c own tail n known (Bind' xs q t r u) env now e h g =
    let p = bind-parts funs own tail n known xs q t r u e in
    words-then (does call t env now) (λ ws next. does call u (assigned_all env xs.items ws) next) (does-words funs call c own false (length xs.items) known t env now p.first h g)
    (λ ws next f g'. does-words funs call c own tail n (xs.items ++ known) u (assigned_all env xs.items ws) next p.rest (assigned-all-env env xs.items ws h f) g')
does-words funs call c own tail n known (Call f bs) env now e h g = c f (atom_words env bs.items) now (atoms-fit env bs.items h) g
does-words funs call c own tail n known (Raise k bs) env now e h g = (atoms-fit env bs.items h, g)
does-words funs call c own tail n known (Try' q t k xs r u) env now e h g =
    let p = try-parts funs own tail n known q t k xs r u e in
    words-handled k (λ ws next. does call u (assigned_all env xs.items ws) next) (does call t env now) (does-words funs call c own false n known t env now p.first h g)
    (λ ws next f g'. does-words funs call c own tail n (xs.items ++ known) u (assigned_all env xs.items ws) next p.handler (assigned-all-env env xs.items ws h f) g')
does-words funs call c own tail n known (Give bs) env now e h g = (atoms-fit env bs.items h, g)

enter-words : (funs : List FlatFun) (main : ℕ) (call : Calls) → Keeping call → is_program funs main ≡ true → (f : ℕ) (o : Option FlatFun) → slice_get funs f ≡ o → (ws : List ℕ) (now : Running) → All IsWord ws → HasSizes now.packet → HoldsWords (enter call o ws now)
enter-words funs main call c e f (Some k) s ws now h g =
    does-words funs call c k.group true k.results k.params.items k.body (assigned_all blank k.params.items ws) now (body-formed funs main f k e s) (assigned-all-env blank k.params.items ws blank-env h) g
enter-words funs main call c e f None s ws now h g = g

taken-words : (left : ℕ) (now : Running) (next : Running → Result) → HasSizes now.packet → ((last : Running) → HasSizes last.packet → HoldsWords (next last)) → HoldsWords (taken left now next)
taken-words zero now next g h = g
taken-words (suc left) now next g h = h (record { calls = left; packet = now.packet; writes = now.writes }) g

pub calls-words : (funs : List FlatFun) (main : ℕ) → is_program funs main ≡ true → (depth : ℕ) → Keeping (calls_within depth funs)
calls-words funs main e zero f ws now h g = g
calls-words funs main e (suc depth) f ws now h g =
    taken-words now.calls now (λ next. enter (calls_within depth funs) (slice_get funs f) ws next) g
    (λ next g'. enter-words funs main (calls_within depth funs) (calls-words funs main e depth) e f (slice_get funs f) refl ws next h g')
