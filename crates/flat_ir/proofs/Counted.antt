-- Formed code gives as many words as it says.
use Rattle.std.proofs.Common.{◌≡◌, ℕ, zero, suc, ◌==◌, Bool, true, false, nat_le, ◌&&◌, List, [], ◌∷◌, ◌++◌, refl, sym, subst, ◌∙◌, if◌then◌else◌, Option, Some, None, length, slice_get}
use Rattle.std.specs.List.{list_all}
use Rattle.std.proofs.lemmas.Bool.{and_parts, eqb-true}
use Rattle.nv_base.specs.declared.term.Mem.{Mem}
use Rattle.nv_base.specs.Memories.{Memories, fetched, stored}
use Rattle.nv_base.specs.Words.{Env, assigned, assigned_all, atom_word, atom_words, prim_word, compares}
use Rattle.nv_base.proofs.WordLemmas.{length-words}
use Rattle.flat_ir.specs.declared.flat.Flat.{Flat}
use Rattle.flat_ir.specs.declared.flat.Flat.TheVariants.{Let', Fetch', Store', If', Bind', Call, Raise, Try', Give}
use Rattle.flat_ir.specs.declared.flat.FlatFun.{FlatFun}
use Rattle.nv_base.specs.Running.{Running}
use Rattle.flat_ir.specs.Running.{Result, Gives, Raises, Halts, and_then, handled, after_fetch, after_store, taken}
use Rattle.flat_ir.specs.Meaning.{Calls, does, blank, enter, calls_within}
use Rattle.nv_base.specs.Access.{is_known, all_known, can_move, is_address, is_primitive}
use Rattle.nv_base.specs.Sets.{all_different}
use Rattle.flat_ir.specs.Formed.{may_stand, can_call, is_formed, defined, is_function, agree, all_raised, is_main, is_program}
use Rattle.flat_ir.specs.Counts.{GivesMany}

-- each call of a function of the program gives as many words as that says
abbrev pub CallsMany : List FlatFun → Calls → Type 0
CallsMany funs call = (f : ℕ) (g : FlatFun) (ws : List ℕ) (now : Running) → slice_get funs f ≡ Some g → GivesMany g.results (call f ws now)

then-many : (n : ℕ) (q : Result) (next : List ℕ → Running → Result) → ((ws : List ℕ) (last : Running) → GivesMany n (next ws last)) → GivesMany n (and_then q next)
then-many n (Gives ws last) next h = h ws last
then-many n (Raises k ws last) next h = tt
then-many n (Halts how last) next h = tt

if-many : (b : Bool) (n : ℕ) (q r : Result) → GivesMany n q → GivesMany n r → GivesMany n (if b then q else r)
if-many true n q r g h = g
if-many false n q r g h = h

handled-many : (k n : ℕ) (handler : List ℕ → Running → Result) (q : Result) → GivesMany n q → ((ws : List ℕ) (last : Running) → GivesMany n (handler ws last)) → GivesMany n (handled k handler q)
handled-many k n handler (Gives ws last) g h = g
handled-many k n handler (Raises j ws last) g h = if-many (j == k) n (handler ws last) (Raises j ws last) (h ws last) tt
handled-many k n handler (Halts how last) g h = tt

fetch-many : (m : Mem) (at n : ℕ) (found : Option (List ℕ)) (now : Running) (next : List ℕ → Result) → ((ws : List ℕ) → GivesMany n (next ws)) → GivesMany n (after_fetch m at found now next)
fetch-many m at n (Some ws) now next h = h ws
fetch-many m at n None now next h = tt

store-many : (m : Mem) (at n : ℕ) (ws : List ℕ) (found : Option Memories) (now : Running) (next : Running → Result) → ((last : Running) → GivesMany n (next last)) → GivesMany n (after_store m at ws found now next)
store-many m at n ws (Some p) now next h = h (record { calls = now.calls; packet = p; writes = now.writes ++ record { mem = m; at = at; words = ws } ∷ [] })
store-many m at n ws None now next h = tt

-- a call that is formed is of a function that gives as many words as are wanted
called : (own : ℕ) (tail : Bool) (given wanted : ℕ) (o : Option FlatFun) → can_call own tail given wanted o ≡ true → (g : FlatFun) × (o ≡ Some g) × (g.results ≡ wanted)
called own tail given wanted (Some g) e =
    let p1 = and_parts (length g.params.items == given) ((g.results == wanted) && may_stand tail own g.group) e in
    let p2 = and_parts (g.results == wanted) (may_stand tail own g.group) p1.1 in
    (g, refl, eqb-true g.results wanted p2.0)
called own tail given wanted None e = cc

pub does-many : (funs : List FlatFun) (call : Calls) → CallsMany funs call → (own : ℕ) (tail : Bool) (n : ℕ) (known : List ℕ) (t : Flat) (env : Env) (now : Running) → is_formed funs own tail n known t ≡ true
    → GivesMany n (does call t env now)
does-many funs call h own tail n known (Let' x a q t) env now e = does-many funs call h own tail n (x ∷ known) t (assigned env x (prim_word env a)) now (and_parts (is_primitive known a) (is_formed funs own tail n (x ∷ known) t) e).1
does-many funs call h own tail n known (Fetch' m xs a q t) env now e =
    let p1 = and_parts (is_known known a) _ e in
    let p2 = and_parts (can_move m (length xs.items)) _ p1.1 in
    let p3 = and_parts (is_address m a (length xs.items)) _ p2.1 in
    fetch-many m (atom_word env a) n (fetched m (atom_word env a) (length xs.items) now.packet) now (λ ws. does call t (assigned_all env xs.items ws) now)
    (λ ws. does-many funs call h own tail n (xs.items ++ known) t (assigned_all env xs.items ws) now p3.1)
does-many funs call h own tail n known (Store' m a bs q t) env now e =
    let p1 = and_parts (is_known known a) _ e in
    let p2 = and_parts (all_known known bs.items) _ p1.1 in
    let p3 = and_parts (can_move m (length bs.items)) _ p2.1 in
    let p4 = and_parts (is_address m a (length bs.items)) _ p3.1 in
    store-many m (atom_word env a) n (atom_words env bs.items) (stored m (atom_word env a) (atom_words env bs.items) now.packet) now (λ next. does call t env next)
    (λ next. does-many funs call h own tail n known t env next p4.1)
does-many funs call h own tail n known (If' c a b q t r u) env now e =
    let p1 = and_parts (is_known known a) (is_known known b && (is_formed funs own tail n known t && is_formed funs own tail n known u)) e in
    let p2 = and_parts (is_known known b) (is_formed funs own tail n known t && is_formed funs own tail n known u) p1.1 in
    let p3 = and_parts (is_formed funs own tail n known t) (is_formed funs own tail n known u) p2.1 in
    if-many (compares c (atom_word env a) (atom_word env b)) n (does call t env now) (does call u env now) (does-many funs call h own tail n known t env now p3.0) (does-many funs call h own tail n known u env now p3.1)
does-many funs call h own tail n known (Bind' xs q t r u) env now e =
    let parts = and_parts (is_formed funs own false (length xs.items) known t) (is_formed funs own tail n (xs.items ++ known) u) e in
    then-many n (does call t env now) (λ ws next. does call u (assigned_all env xs.items ws) next) (λ ws next. does-many funs call h own tail n (xs.items ++ known) u (assigned_all env xs.items ws) next parts.1)
does-many funs call h own tail n known (Call f bs) env now e =
    let to = called own tail (length bs.items) n (slice_get funs f) (and_parts (all_known known bs.items) (can_call own tail (length bs.items) n (slice_get funs f)) e).1 in
    subst (λ k. GivesMany k (call f (atom_words env bs.items) now)) to.2 (h f to.0 (atom_words env bs.items) now to.1)
does-many funs call h own tail n known (Raise k bs) env now e = tt
does-many funs call h own tail n known (Try' q t k xs r u) env now e =
    let p1 = and_parts (is_formed funs own false n known t) (nat_le 1 k && is_formed funs own tail n (xs.items ++ known) u) e in
    let p2 = and_parts (nat_le 1 k) (is_formed funs own tail n (xs.items ++ known) u) p1.1 in
    handled-many k n (λ ws next. does call u (assigned_all env xs.items ws) next) (does call t env now) (does-many funs call h own false n known t env now p1.0)
    (λ ws next. does-many funs call h own tail n (xs.items ++ known) u (assigned_all env xs.items ws) next p2.1)
does-many funs call h own tail n known (Give bs) env now e = length-words env bs.items ∙ eqb-true (length bs.items) n (and_parts (all_known known bs.items) (length bs.items == n) e).1

-- ---- the functions of a program

pub one_of_all : (p : FlatFun → Bool) (fs : List FlatFun) (i : ℕ) (f : FlatFun) → list_all p fs ≡ true → slice_get fs i ≡ Some f → p f ≡ true
one_of_all p [] i f e s = cc
one_of_all p (g ∷ fs) zero f e s = let same : g ≡ f = cc in subst (λ h. p h ≡ true) same (and_parts (p g) (list_all p fs) e).0
one_of_all p (g ∷ fs) (suc i) f e s = one_of_all p fs i f (and_parts (p g) (list_all p fs) e).1 s

-- a function of a program is formed
pub function-formed : (funs : List FlatFun) (main : ℕ) (i : ℕ) (f : FlatFun) → is_program funs main ≡ true → slice_get funs i ≡ Some f → is_function funs f ≡ true
function-formed funs main i f e s = one_of_all (is_function funs) funs i f (and_parts (list_all (is_function funs) funs) (agree (all_raised funs) && is_main funs (slice_get funs main)) e).0 s

pub body-formed : (funs : List FlatFun) (main : ℕ) (i : ℕ) (f : FlatFun) → is_program funs main ≡ true → slice_get funs i ≡ Some f → is_formed funs f.group true f.results f.params.items f.body ≡ true
body-formed funs main i f e s =
    (and_parts (is_formed funs f.group true f.results f.params.items f.body) (all_different (f.params.items ++ defined f.body)) (function-formed funs main i f e s)).0

taken-many : (left n : ℕ) (now : Running) (next : Running → Result) → ((last : Running) → GivesMany n (next last)) → GivesMany n (taken left now next)
taken-many zero n now next h = tt
taken-many (suc left) n now next h = h (record { calls = left; packet = now.packet; writes = now.writes })

pub calls-many : (depth : ℕ) (funs : List FlatFun) (main : ℕ) → is_program funs main ≡ true → CallsMany funs (calls_within depth funs)
calls-many zero funs main e f g ws now s = tt
calls-many (suc depth) funs main e f g ws now s =
    taken-many now.calls g.results now (λ next. enter (calls_within depth funs) (slice_get funs f) ws next)
    (λ next. subst (λ o. GivesMany g.results (enter (calls_within depth funs) o ws next)) (sym s)
    (does-many funs (calls_within depth funs) (calls-many depth funs main e) g.group true g.results g.params.items g.body (assigned_all blank g.params.items ws) next (body-formed funs main f g e s)))

-- code that is formed in a program
pub code-many : (funs : List FlatFun) (main depth own : ℕ) (tail : Bool) (n : ℕ) (known : List ℕ) (t : Flat) (env : Env) (now : Running) → is_program funs main ≡ true → is_formed funs own tail n known t ≡ true
    → GivesMany n (does (calls_within depth funs) t env now)
code-many funs main depth own tail n known t env now e formed = does-many funs (calls_within depth funs) (calls-many depth funs main e) own tail n known t env now formed
