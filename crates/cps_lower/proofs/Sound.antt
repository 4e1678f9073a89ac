-- The term of formed code is formed, and its exceptions have their words.
use Rattle.std.proofs.Common.{◌≡◌, ℕ, ◌+◌, ◌≤◌, ◌<◌, ◌==◌, nat_eq, nat_le, nat_lt, Bool, true, false, ◌&&◌, ◌||◌, List, [], ◌∷◌, ◌++◌, length, Option, Some, None, slice_get, if◌then◌else◌, refl, sym, ap, subst, ◌∙◌, arith}
use Rattle.std.specs.Prelude.{option_map}
use Rattle.std.proofs.lemmas.Bool.{eq-eqb, eqb-true, and_from, and_parts, le-leb, leb-true, ltb-false, false≢true}
use Rattle.std.proofs.lemmas.Option.{slice_get-map}
use Rattle.nv_base.specs.declared.term.Atom.{Atom}
use Rattle.nv_base.specs.Access.{is_known, all_known, is_primitive, can_move, is_address}
use Rattle.flat_ir.specs.declared.flat.Flat.{Flat}
use Rattle.flat_ir.specs.declared.flat.Flat.TheVariants.{Let', Fetch', Store', If', Bind', Call, Raise, Try', Give}
use Rattle.flat_ir.specs.declared.flat.FlatFun.{FlatFun}
use Rattle.flat_ir.specs.Formed as flat
use Rattle.flat_ir.proofs.FormedParts.{let-parts, fetch-parts, store-parts, if-parts, bind-parts, CallParts, call-parts, try-parts, give-parts}
use Rattle.cps_ir.specs.Meaning.{handler_of}
use Rattle.cps_ir.specs.Formed.{Scoped, arity, takes_as_many, takes, is_there, are_handlers, can_call, can_go, is_formed, handled, handled_words, raised}
use Rattle.cps_ir.specs.Term.{Handler, Term, Fun}
use Rattle.cps_ir.specs.Term as cps
use Rattle.cps_lower.specs.inner.Lowered.{labels, one_label, give_term, raise_term, call_term, is_earlier, hands_on, lowered, lowered_fun, lowered_all}
use Rattle.cps_lower.proofs.Agrees.{Agrees, agrees_append, agrees_left, agrees_right}
use Rattle.cps_lower.proofs.Simulates.{Ends, ends_inside, call_free}

-- ---- labels in scope

arity_new : (n j : ℕ) (ss : Scoped) → arity n ((n, j) ∷ ss) ≡ Some j
arity_new n j ss = ap (λ b. if b then Some j else arity n ss) (eq-eqb n n refl)

-- a new label hides none of those below
arity_old : (l n j : ℕ) (ss : Scoped) → l < n → arity l ((n, j) ∷ ss) ≡ arity l ss
arity_old l n j ss lt = let e : (n == l) ≡ false = grind arith in ap (λ b. if b then Some j else arity l ss) e

takes_from : (ss : Scoped) (l n m : ℕ) → arity l ss ≡ Some m → m ≡ n → takes ss l n ≡ true
takes_from ss l n m e is = ap (takes_as_many n) e ∙ eq-eqb m n is

-- ---- handlers

-- the label of a handler, below the next one, has as many parameters as its exception has words
pub record IsHandler (w : ℕ → ℕ) (ss : Scoped) (n : ℕ) (h : Handler) : Type 0 where
  pub number : 1 ≤ h.0
  pub below : h.1 < n
  pub takes : arity h.1 ss ≡ Some (w h.0)

abbrev pub Handlers : (ℕ → ℕ) → Scoped → ℕ → List Handler → Type 0
Handlers w ss n [] = Unit {0}
Handlers w ss n (h ∷ hs) = IsHandler w ss n h × Handlers w ss n hs

handlers_more : (w : ℕ → ℕ) (ss : Scoped) (n n' : ℕ) (hs : List Handler) → n ≤ n' → Handlers w ss n hs → Handlers w ss n' hs
handlers_more w ss n n' [] le p = tt
handlers_more w ss n n' (h ∷ hs) le p =
    let b : h.1 < n = p.0.below in
    (record { number = p.0.number; below = omega arith; takes = p.0.takes }, handlers_more w ss n n' hs le p.1)

handlers_bound : (w : ℕ → ℕ) (ss : Scoped) (n n' j : ℕ) (hs : List Handler) → n ≤ n' → Handlers w ss n hs → Handlers w ((n, j) ∷ ss) n' hs
handlers_bound w ss n n' j [] le p = tt
handlers_bound w ss n n' j (h ∷ hs) le p =
    let b : h.1 < n = p.0.below in
    (record { number = p.0.number; below = omega arith; takes = arity_old h.1 n j ss b ∙ p.0.takes }, handlers_bound w ss n n' j hs le p.1)

are_there : (w : ℕ → ℕ) (ss : Scoped) (n : ℕ) (hs : List Handler) → Handlers w ss n hs → are_handlers ss hs ≡ true
are_there w ss n [] p = refl
are_there w ss n (h ∷ hs) p =
    and_from (nat_le 1 h.0 && is_there (arity h.1 ss)) (are_handlers ss hs) (and_from (nat_le 1 h.0) (is_there (arity h.1 ss)) (le-leb 1 h.0 p.0.number) (ap is_there p.0.takes)) (are_there w ss n hs p.1)

handled_agrees : (w : ℕ → ℕ) (ss : Scoped) (n : ℕ) (hs : List Handler) → Handlers w ss n hs → Agrees w (handled ss hs)
handled_agrees w ss n [] p = tt
handled_agrees w ss n (h ∷ hs) p =
    subst (λ o. Agrees w (handled_words h.0 o ++ handled ss hs)) (sym p.0.takes) (refl, handled_agrees w ss n hs p.1)

-- the label that takes an exception, if there is one
abbrev Takes : (ℕ → ℕ) → Scoped → ℕ → Option ℕ → Type 0
Takes w ss e (Some l) = arity l ss ≡ Some (w e)
Takes w ss e None = Unit {0}

takes_if : (w : ℕ → ℕ) (ss : Scoped) (e : ℕ) (b : Bool) (k l : Option ℕ) → (b ≡ true → Takes w ss e k) → Takes w ss e l → Takes w ss e (if b then k else l)
takes_if w ss e true k l h g = h refl
takes_if w ss e false k l h g = g

handler_takes : (w : ℕ → ℕ) (ss : Scoped) (n e : ℕ) (hs : List Handler) → Handlers w ss n hs → Takes w ss e (handler_of e hs)
handler_takes w ss n e [] p = tt
handler_takes w ss n e (h ∷ hs) p = takes_if w ss e (nat_eq h.0 e) (Some h.1) (handler_of e hs) (λ is. p.0.takes ∙ ap (λ x. Some (w x)) (eqb-true h.0 e is)) (handler_takes w ss n e hs p.1)

-- ---- where code stands in a function that returns r words

-- m words go to a label, or are the function's
abbrev pub Receives : Scoped → ℕ → ℕ → ℕ → Option ℕ → Type 0
Receives ss r m n (Some l) = (l < n) × (arity l ss ≡ Some m)
Receives ss r m n None = m ≡ r

-- where last calls hand their words on, label 0 takes them
abbrev pub Takes0 : Scoped → ℕ → ℕ → Option ℕ → Bool → Type 0
Takes0 ss r n (Some l) b = Unit {0}
Takes0 ss r n None true = (1 ≤ n) × (arity 0 ss ≡ Some r)
Takes0 ss r n None false = Unit {0}

pub record Place (w : ℕ → ℕ) (ss : Scoped) (r m n : ℕ) (k : Option ℕ) (hs : List Handler) (tail hands : Bool) : Type 0 where
  pub to : Receives ss r m n k
  pub handlers : Handlers w ss n hs
  pub ends : Ends tail k hs
  pub back : Takes0 ss r n k hands

receives_more : (ss : Scoped) (r m n n' : ℕ) (k : Option ℕ) → n ≤ n' → Receives ss r m n k → Receives ss r m n' k
receives_more ss r m n n' (Some l) le h = let b : l < n = h.0 in (omega arith, h.1)
receives_more ss r m n n' None le h = h

receives_bound : (ss : Scoped) (r m n n' j : ℕ) (k : Option ℕ) → n ≤ n' → Receives ss r m n k → Receives ((n, j) ∷ ss) r m n' k
receives_bound ss r m n n' j (Some l) le h = let b : l < n = h.0 in (omega arith, arity_old l n j ss b ∙ h.1)
receives_bound ss r m n n' j None le h = h

back_left : (ss : Scoped) (r n : ℕ) (k : Option ℕ) (b c : Bool) → Takes0 ss r n k (b || c) → Takes0 ss r n k b
back_left ss r n (Some l) b c h = tt
back_left ss r n None true c h = h
back_left ss r n None false c h = tt

back_right : (ss : Scoped) (r n : ℕ) (k : Option ℕ) (b c : Bool) → Takes0 ss r n k (b || c) → Takes0 ss r n k c
back_right ss r n (Some l) b c h = tt
back_right ss r n None true true h = h
back_right ss r n None false true h = h
back_right ss r n None true false h = tt
back_right ss r n None false false h = tt

back_more : (ss : Scoped) (r n n' : ℕ) (k : Option ℕ) (b : Bool) → n ≤ n' → Takes0 ss r n k b → Takes0 ss r n' k b
back_more ss r n n' (Some l) b le h = tt
back_more ss r n n' None true le h = let x : 1 ≤ n = h.0 in (omega arith, h.1)
back_more ss r n n' None false le h = tt

back_bound : (ss : Scoped) (r n n' j : ℕ) (k : Option ℕ) (b : Bool) → n ≤ n' → Takes0 ss r n k b → Takes0 ((n, j) ∷ ss) r n' k b
back_bound ss r n n' j (Some l) b le h = tt
back_bound ss r n n' j None true le h = let x : 1 ≤ n = h.0 in (omega arith, arity_old 0 n j ss (omega arith) ∙ h.1)
back_bound ss r n n' j None false le h = tt

pub place_left : {w : ℕ → ℕ} {ss : Scoped} {r m n : ℕ} {k : Option ℕ} {hs : List Handler} {tail : Bool} (b c : Bool) → Place w ss r m n k hs tail (b || c) → Place w ss r m n k hs tail b
place_left {ss = ss} {r = r} {n = n} {k = k} b c p = record { to = p.to; handlers = p.handlers; ends = p.ends; back = back_left ss r n k b c p.back }

pub place_right : {w : ℕ → ℕ} {ss : Scoped} {r m n : ℕ} {k : Option ℕ} {hs : List Handler} {tail : Bool} (b c : Bool) → Place w ss r m n k hs tail (b || c) → Place w ss r m n k hs tail c
place_right {ss = ss} {r = r} {n = n} {k = k} b c p = record { to = p.to; handlers = p.handlers; ends = p.ends; back = back_right ss r n k b c p.back }

place_more : {w : ℕ → ℕ} {ss : Scoped} {r m n : ℕ} {k : Option ℕ} {hs : List Handler} {tail b : Bool} (n' : ℕ) → n ≤ n' → Place w ss r m n k hs tail b → Place w ss r m n' k hs tail b
place_more {w = w} {ss = ss} {r = r} {m = m} {n = n} {k = k} {hs = hs} {b = b} n' le p = record {
  to = receives_more ss r m n n' k le p.to;
  handlers = handlers_more w ss n n' hs le p.handlers;
  ends = p.ends;
  back = back_more ss r n n' k b le p.back;
}

-- after a new label
place_bound : {w : ℕ → ℕ} {ss : Scoped} {r m n : ℕ} {k : Option ℕ} {hs : List Handler} {tail b : Bool} (j n' : ℕ) → n ≤ n' → Place w ss r m n k hs tail b → Place w ((n, j) ∷ ss) r m n' k hs tail b
place_bound {w = w} {ss = ss} {r = r} {m = m} {n = n} {k = k} {hs = hs} {b = b} j n' le p = record {
  to = receives_bound ss r m n n' j k le p.to;
  handlers = handlers_bound w ss n n' j hs le p.handlers;
  ends = p.ends;
  back = back_bound ss r n n' j k b le p.back;
}

-- the first part of a Bind, and the body of a Try
place_bind : {w : ℕ → ℕ} {ss : Scoped} {r m n : ℕ} {k : Option ℕ} {hs : List Handler} {tail b : Bool} (j : ℕ) (c : Bool) → Place w ss r m n k hs tail b → Place w ((n, j) ∷ ss) r j (n + 1) (Some n) hs false c
place_bind {w = w} {ss = ss} {n = n} {hs = hs} j c p = record {
  to = (omega arith, arity_new n j ss);
  handlers = handlers_bound w ss n (n + 1) j hs (omega arith) p.handlers;
  ends = ends_inside (Some n) hs;
  back = tt;
}

place_try : {w : ℕ → ℕ} {ss : Scoped} {r m n : ℕ} {k : Option ℕ} {hs : List Handler} {tail b : Bool} (e j : ℕ) → 1 ≤ e → j ≡ w e → Place w ss r m n k hs tail b → Place w ((n, j) ∷ ss) r m (n + 1) k ((e, n) ∷ hs) false b
place_try {w = w} {ss = ss} {r = r} {m = m} {n = n} {k = k} {hs = hs} {b = b} e j one is p = record {
  to = receives_bound ss r m n (n + 1) j k (omega arith) p.to;
  handlers = (record { number = one; below = omega arith; takes = arity_new n j ss ∙ ap (λ x. Some x) is }, handlers_bound w ss n (n + 1) j hs (omega arith) p.handlers);
  ends = ends_inside k ((e, n) ∷ hs);
  back = back_bound ss r n (n + 1) j k b (omega arith) p.back;
}

-- ---- the ends of code

abbrev pub IsSound : (ℕ → ℕ) → List Fun → ℕ → ℕ → Scoped → List ℕ → Term → Type 0
IsSound w funs own r ss known t = (is_formed funs own r ss known t ≡ true) × Agrees w (raised ss t)

give_sound : (w : ℕ → ℕ) (funs : List Fun) (own r m n : ℕ) (ss : Scoped) (known : List ℕ) (bs : List Atom) (k : Option ℕ) → all_known known bs ≡ true → length bs ≡ m → Receives ss r m n k → IsSound w funs own r ss known (give_term k bs)
give_sound w funs own r m n ss known bs (Some l) operands is h = (and_from (all_known known bs) (takes ss l (length bs)) operands (takes_from ss l (length bs) m h.1 (sym is)), tt)
give_sound w funs own r m n ss known bs None operands is h = (and_from (all_known known bs) (length bs == r) operands (eq-eqb (length bs) r (is ∙ h)), tt)

raise_sound : (w : ℕ → ℕ) (funs : List Fun) (own r e : ℕ) (ss : Scoped) (known : List ℕ) (bs : List Atom) (o : Option ℕ) → (all_known known bs && (nat_le 1 e && nat_le (length bs) 8)) ≡ true → length bs ≡ w e → Takes w ss e o → IsSound w funs own r ss known (raise_term o e bs)
raise_sound w funs own r e ss known bs (Some l) formed is h =
    (and_from (all_known known bs) (takes ss l (length bs)) (and_parts (all_known known bs) (nat_le 1 e && nat_le (length bs) 8) formed).0 (takes_from ss l (length bs) (w e) h (sym is)), tt)
raise_sound w funs own r e ss known bs None formed is h = (formed, (is, tt))

-- the function that is called has as many parameters and words as are wanted
called_at : (funs : List Fun) (own given n : ℕ) (ss : Scoped) (f l : ℕ) (g : Fun) → slice_get funs f ≡ Some g → length g.params ≡ given → takes ss l g.results ≡ true → nat_lt g.group own ≡ true → can_call own given ss l (slice_get funs f) ≡ true
called_at funs own given n ss f l g there params fits earlier =
    ap (can_call own given ss l) there ∙ and_from (length g.params == given) (takes ss l g.results && nat_lt g.group own) (eq-eqb (length g.params) given params) (and_from (takes ss l g.results) (nat_lt g.group own) fits earlier)

gone_at : (funs : List Fun) (own given n f : ℕ) (g : Fun) → slice_get funs f ≡ Some g → length g.params ≡ given → g.results ≡ n → g.group ≡ own → can_go own given n (slice_get funs f) ≡ true
gone_at funs own given n f g there params results group =
    ap (can_go own given n) there ∙ and_from (length g.params == given) ((g.results == n) && (g.group == own)) (eq-eqb (length g.params) given params) (and_from (g.results == n) (g.group == own) (eq-eqb g.results n results) (eq-eqb g.group own group))

-- inside of a first part or a body, a call is of an earlier group
stands_earlier : (tail : Bool) (own group l : ℕ) (hs : List Handler) → Ends tail (Some l) hs → flat.may_stand tail own group ≡ true → nat_lt group own ≡ true
stands_earlier false own group l hs ends h = h
stands_earlier true own group l hs ends h = let none : Some l ≡ None = (ends refl).0 in cc

-- a last call that isn't of an earlier group is of the own one
stands_own : (tail : Bool) (own group : ℕ) → flat.may_stand tail own group ≡ true → nat_lt group own ≡ false → group ≡ own
stands_own true own group h e = let le : group ≤ own = leb-true group own h in let ge : own ≤ group = ltb-false group own e in omega arith
stands_own false own group h e = absurd (false≢true (sym e ∙ h))

module _ (w : ℕ → ℕ) (flats : List FlatFun) (own r : ℕ) where
  call_sound : (earlier tail : Bool) (m n : ℕ) (ss : Scoped) (known : List ℕ) (f : ℕ) (bs : _) (k : Option ℕ) (hs : List Handler) → is_earlier own (slice_get flats f) ≡ earlier → flat.is_formed flats own tail m known (Call f bs) ≡ true → CallParts flats own tail m known f bs.items → Place w ss r m n k hs tail earlier
      → IsSound w (lowered_all flats) own r ss known (call_term earlier f bs.items k hs)
  call_sound earlier tail m n ss known f bs (Some l) hs e formed parts p =
      let g = parts.function in
      let there : slice_get (lowered_all flats) f ≡ Some (lowered_fun flats g) = slice_get-map (lowered_fun flats) flats f ∙ ap (option_map (lowered_fun flats)) parts.there in (
        and_from (all_known known bs.items) (can_call own (length bs.items) ss l (slice_get (lowered_all flats) f) && are_handlers ss hs) parts.operands
            (and_from (can_call own (length bs.items) ss l (slice_get (lowered_all flats) f)) (are_handlers ss hs)
            (called_at (lowered_all flats) own (length bs.items) r ss f l (lowered_fun flats g) there parts.params (takes_from ss l g.results m p.to.1 (sym parts.results)) (stands_earlier tail own g.group l hs p.ends parts.stands))
            (are_there w ss n hs p.handlers)),
        handled_agrees w ss n hs p.handlers,
      )
  call_sound true tail m n ss known f bs None hs e formed parts p =
      let g = parts.function in
      let there : slice_get (lowered_all flats) f ≡ Some (lowered_fun flats g) = slice_get-map (lowered_fun flats) flats f ∙ ap (option_map (lowered_fun flats)) parts.there in (
        and_from (all_known known bs.items) (can_call own (length bs.items) ss 0 (slice_get (lowered_all flats) f) && are_handlers ss hs) parts.operands
            (and_from (can_call own (length bs.items) ss 0 (slice_get (lowered_all flats) f)) (are_handlers ss hs)
            (called_at (lowered_all flats) own (length bs.items) r ss f 0 (lowered_fun flats g) there parts.params (takes_from ss 0 g.results r p.back.1 (sym p.to ∙ sym parts.results)) (ap (is_earlier own) (sym parts.there) ∙ e))
            (are_there w ss n hs p.handlers)),
        handled_agrees w ss n hs p.handlers,
      )
  call_sound false tail m n ss known f bs None hs e formed parts p =
      let g = parts.function in
      let there : slice_get (lowered_all flats) f ≡ Some (lowered_fun flats g) = slice_get-map (lowered_fun flats) flats f ∙ ap (option_map (lowered_fun flats)) parts.there in
      let free : hs ≡ [] = call_free flats own tail m known f bs None hs formed p.ends e in
      subst (λ l. IsSound w (lowered_all flats) own r ss known (cps.Call f bs.items None l)) (sym free) (
        and_from (all_known known bs.items) (can_go own (length bs.items) r (slice_get (lowered_all flats) f)) parts.operands
            (gone_at (lowered_all flats) own (length bs.items) r f (lowered_fun flats g) there parts.params (parts.results ∙ p.to) (stands_own tail own g.group parts.stands (ap (is_earlier own) (sym parts.there) ∙ e))),
        tt,
      )

  -- ---- nodes

  fix_sound : (n : ℕ) (xs : List ℕ) (t u : Term) (ss : Scoped) (known : List ℕ) → IsSound w (lowered_all flats) own r ((n, length xs) ∷ ss) (xs ++ known) t → IsSound w (lowered_all flats) own r ((n, length xs) ∷ ss) known u → IsSound w (lowered_all flats) own r ss known (cps.Fix (one_label n xs t) u)
  fix_sound n xs t u ss known p q =
      let inner = (n, length xs) ∷ ss in (
        and_from (is_formed (lowered_all flats) own r inner (xs ++ known) t && true) (is_formed (lowered_all flats) own r inner known u) (and_from (is_formed (lowered_all flats) own r inner (xs ++ known) t) true p.0 refl) q.0,
        agrees_append w (raised inner t ++ []) (raised inner u) (agrees_append w (raised inner t) [] p.1 tt) q.1,
      )

  pub lowered_sound : (t : Flat) (tail : Bool) (m : ℕ) (known : List ℕ) → flat.is_formed flats own tail m known t ≡ true → Agrees w (flat.raised t) → (n : ℕ) (k : Option ℕ) (hs : List Handler) (ss : Scoped) → Place w ss r m n k hs tail (hands_on flats own t) → IsSound w (lowered_all flats) own r ss known (lowered flats own t n k hs)
  lowered_sound (Let' x a q t) tail m known formed words n k hs ss p =
      let parts = let-parts flats own tail m known x a q t formed in
      let rest = lowered_sound t tail m (x ∷ known) parts.rest words n k hs ss p in
      (and_from (is_primitive known a) (is_formed (lowered_all flats) own r ss (x ∷ known) (lowered flats own t n k hs)) parts.primitive rest.0, rest.1)
  lowered_sound (Fetch' o xs a q t) tail m known formed words n k hs ss p =
      let parts = fetch-parts flats own tail m known o xs a q t formed in
      let rest = lowered_sound t tail m (xs.items ++ known) parts.rest words n k hs ss p in
      let last = is_formed (lowered_all flats) own r ss (xs.items ++ known) (lowered flats own t n k hs) in
      let address = is_address o a (length xs.items) in
      let move = can_move o (length xs.items) in
      (and_from (is_known known a) (move && (address && last)) parts.operand (and_from move (address && last) parts.moves (and_from address last parts.address rest.0)), rest.1)
  lowered_sound (Store' o a bs q t) tail m known formed words n k hs ss p =
      let parts = store-parts flats own tail m known o a bs q t formed in
      let rest = lowered_sound t tail m known parts.rest words n k hs ss p in
      let last = is_formed (lowered_all flats) own r ss known (lowered flats own t n k hs) in
      let address = is_address o a (length bs.items) in
      let move = can_move o (length bs.items) in (
        and_from (is_known known a) (all_known known bs.items && (move && (address && last))) parts.operand
            (and_from (all_known known bs.items) (move && (address && last)) parts.operands (and_from move (address && last) parts.moves (and_from address last parts.address rest.0))),
        rest.1,
      )
  lowered_sound (If' o a b q t s u) tail m known formed words n k hs ss p =
      let parts = if-parts flats own tail m known o a b q t s u formed in
      let first = lowered_sound t tail m known parts.first (agrees_left w (flat.raised t) (flat.raised u) words) n k hs ss (place_left (hands_on flats own t) (hands_on flats own u) p) in
      let second = lowered_sound u tail m known parts.second (agrees_right w (flat.raised t) (flat.raised u) words) (n + labels t) k hs ss (place_more (n + labels t) (omega arith) (place_right (hands_on flats own t) (hands_on flats own u) p)) in
      let f = is_formed (lowered_all flats) own r ss known (lowered flats own t n k hs) in
      let g = is_formed (lowered_all flats) own r ss known (lowered flats own u (n + labels t) k hs) in
      (and_from (is_known known a) (is_known known b && (f && g)) parts.left (and_from (is_known known b) (f && g) parts.right (and_from f g first.0 second.0)), agrees_append w _ _ first.1 second.1)
  lowered_sound (Bind' xs q t s u) tail m known formed words n k hs ss p =
      let parts = bind-parts flats own tail m known xs q t s u formed in
      fix_sound n xs.items (lowered flats own u (n + 1 + labels t) k hs) (lowered flats own t (n + 1) (Some n) hs) ss known
      (lowered_sound u tail m (xs.items ++ known) parts.rest (agrees_right w (flat.raised t) (flat.raised u) words) (n + 1 + labels t) k hs ((n, length xs.items) ∷ ss) (place_bound (length xs.items) (n + 1 + labels t) (omega arith) p))
      (lowered_sound t false (length xs.items) known parts.first (agrees_left w (flat.raised t) (flat.raised u) words) (n + 1) (Some n) hs ((n, length xs.items) ∷ ss) (place_bind (length xs.items) (hands_on flats own t) p))
  lowered_sound (Call f bs) tail m known formed words n k hs ss p =
      call_sound (is_earlier own (slice_get flats f)) tail m n ss known f bs k hs refl formed (call-parts flats own tail m known f bs formed) p
  lowered_sound (Raise e bs) tail m known formed words n k hs ss p =
      raise_sound w (lowered_all flats) own r e ss known bs.items (handler_of e hs) formed words.0 (handler_takes w ss n e hs p.handlers)
  lowered_sound (Try' q t e xs s u) tail m known formed words n k hs ss p =
      let parts = try-parts flats own tail m known q t e xs s u formed in
      let others = agrees_right w (flat.raised t) ((e, length xs.items) ∷ flat.raised u) words in
      fix_sound n xs.items (lowered flats own u (n + 1 + labels t) k hs) (lowered flats own t (n + 1) k ((e, n) ∷ hs)) ss known
      (lowered_sound u tail m (xs.items ++ known) parts.handler others.1 (n + 1 + labels t) k hs ((n, length xs.items) ∷ ss) (place_bound (length xs.items) (n + 1 + labels t) (omega arith) (place_right (hands_on flats own t) (hands_on flats own u) p)))
      (lowered_sound t false m known parts.first (agrees_left w (flat.raised t) ((e, length xs.items) ∷ flat.raised u) words) (n + 1) k ((e, n) ∷ hs) ((n, length xs.items) ∷ ss) (place_try e (length xs.items) parts.number others.0 (place_left (hands_on flats own t) (hands_on flats own u) p)))
  lowered_sound (Give bs) tail m known formed words n k hs ss p =
      let parts = give-parts flats own tail m known bs formed in
      give_sound w (lowered_all flats) own r m n ss known bs.items k parts.operands parts.words p.to
