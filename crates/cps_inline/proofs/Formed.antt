-- The copies are well formed.
use Rattle.std.proofs.Common.{◌≡◌, ℕ, zero, suc, ◌+◌, ◌≤◌, ◌<◌, nat_eq, nat_le, nat_lt, ◌==◌, Bool, true, false, ◌&&◌, List, [], ◌∷◌, ◌++◌, length, Option, Some, None, slice_get, if◌then◌else◌, refl, sym, ap, subst, ◌∙◌, ⊎_elim, arith}
use Rattle.std.specs.List.{list_all}
use Rattle.std.proofs.lemmas.Bool.{and_parts, and_from, or_cases, or_left, or_right, eq-eqb, eqb-true, false≢true, ne_eqb}
use Rattle.std.proofs.lemmas.Bool.Decides.{nat_tests}
use Rattle.std.proofs.lemmas.List.{length-map}
use Rattle.std.proofs.lemmas.Option.{none-some, same_Some, slice_get_within}
use Rattle.nv_base.specs.declared.term.Atom.{Atom}
use Rattle.nv_base.specs.declared.term.Atom.TheVariants.{Var, Lit}
use Rattle.nv_base.specs.declared.term.Mem.{Mem}
use Rattle.nv_base.specs.declared.term.Mem.TheVariants.{Sram, Sdram, Scratch}
use Rattle.nv_base.specs.declared.term.Primitive.{Primitive}
use Rattle.nv_base.specs.declared.term.Primitive.TheVariants.{Same, Una as UnaOf, Bin as BinOf}
use Rattle.nv_base.specs.Access.{is_known, all_known, has_count, is_primitive, can_move, is_address}
use Rattle.nv_base.specs.Sets.{is_in, all_different}
use Rattle.cps_ir.specs.Formed.{Scoped, scoped, arity, takes_as_many, takes, is_there, are_handlers, can_call, can_go, is_call, is_formed, are_formed, handled_words, handled, raised, labels_raised, is_function, all_raised, defined, made}
use Rattle.cps_ir.specs.Meaning.{handler_of}
use Rattle.cps_ir.specs.Term.{Handler, Term, Let, Read, Write, If, Fix, Call, Return, Throw, Jump, Halt, Labels, none, label, Fun}
use Rattle.cps_inline.specs.inner.Inlined.{Counts, Entering, InlineContext, return_term, moved, moved_atom, moved_atoms, moved_primitive, moved_handlers, after_handlers, term_span, labels_span, span, is_copied, is_one, term_count, labels_count, copy_count, copied, copied_labels, copies, entered, entered_call, entering, counts}
use Rattle.cps_inline.proofs.Moved.{eq-moved}
use Rattle.cps_inline.proofs.Simulates.{IsBelow, below-more, Below, start-far, start-far-other, handlers-below, to-below, earlier-group, class-from, group-less}
use Rattle.cps_inline.proofs.Told.{Told, told-left, told-right}

-- ---- known variables

abbrev pub KnownFit : ℕ → List ℕ → List ℕ → Type 0
KnownFit b known known' = (x : ℕ) → is_in x known ≡ true → is_in (b + x) known' ≡ true

known-one : (b x : ℕ) (known known' : List ℕ) → KnownFit b known known' → KnownFit b (x ∷ known) ((b + x) ∷ known')
known-one b x known known' h y i =
    ⊎_elim
    (λ (e : nat_eq y x ≡ true). or_left (nat_eq (b + y) (b + x)) (is_in (b + y) known') (eq-moved b y x ∙ e))
    (λ (j : is_in y known ≡ true). or_right (nat_eq (b + y) (b + x)) (is_in (b + y) known') (h y j))
    (or_cases (nat_eq y x) (is_in y known) i)

known-more : (b : ℕ) (xs known known' : List ℕ) → KnownFit b known known' → KnownFit b (xs ++ known) (moved b xs ++ known')
known-more b [] known known' h = h
known-more b (x ∷ xs) known known' h = known-one b x (xs ++ known) (moved b xs ++ known') (known-more b xs known known' h)

known-params : (b : ℕ) (xs known' : List ℕ) → KnownFit b xs (moved b xs ++ known')
known-params b [] known' = λ x i. absurd (false≢true i)
known-params b (x ∷ xs) known' = known-one b x xs (moved b xs ++ known') (known-params b xs known')

atom-fits : (b : ℕ) (known known' : List ℕ) → KnownFit b known known' → (a : Atom) → is_known known a ≡ true → is_known known' (moved_atom b a) ≡ true
atom-fits b known known' h (Var x) i = h x i
atom-fits b known known' h (Lit v) i = refl

atoms-fit : (b : ℕ) (known known' : List ℕ) → KnownFit b known known' → (as' : List Atom) → all_known known as' ≡ true → all_known known' (moved_atoms b as') ≡ true
atoms-fit b known known' h [] i = refl
atoms-fit b known known' h (a ∷ as') i =
    let parts = and_parts (is_known known a) (all_known known as') i in and_from (is_known known' (moved_atom b a)) (all_known known' (moved_atoms b as')) (atom-fits b known known' h a parts.0) (atoms-fit b known known' h as' parts.1)

prim-fits : (b : ℕ) (known known' : List ℕ) → KnownFit b known known' → (p : Primitive) → is_primitive known p ≡ true → is_primitive known' (moved_primitive b p) ≡ true
prim-fits b known known' h (Same a) i = atom-fits b known known' h a i
prim-fits b known known' h (UnaOf op a) i = let parts = and_parts (has_count op) (is_known known a) i in and_from (has_count op) (is_known known' (moved_atom b a)) parts.0 (atom-fits b known known' h a parts.1)
prim-fits b known known' h (BinOf op a c) i =
    let parts = and_parts (is_known known a) (is_known known c) i in and_from (is_known known' (moved_atom b a)) (is_known known' (moved_atom b c)) (atom-fits b known known' h a parts.0) (atom-fits b known known' h c parts.1)

address-fits : (b : ℕ) (m : Mem) (a : Atom) (n : ℕ) → is_address m a n ≡ true → is_address m (moved_atom b a) n ≡ true
address-fits b Sram a n h = refl
address-fits b Sdram a n h = refl
address-fits b Scratch (Var x) n h = absurd (false≢true h)
address-fits b Scratch (Lit v) n h = h

-- ---- labels

abbrev pub LabelsFit : ℕ → Scoped → Scoped → Type 0
LabelsFit b ss ss' = (l k : ℕ) → takes ss l k ≡ true → takes ss' (b + l) k ≡ true

fits-if : (t t' : Bool) (i i' k : ℕ) (o o' : Option ℕ) → t' ≡ t → i' ≡ i → (takes_as_many k o ≡ true → takes_as_many k o' ≡ true) → takes_as_many k (if t then Some i else o) ≡ true → takes_as_many k (if t' then Some i' else o') ≡ true
fits-if true true i i' k o o' e s h g = ap (λ x. x == k) s ∙ g
fits-if false false i i' k o o' e s h g = h g
fits-if true false i i' k o o' e s h g = absurd (false≢true e)
fits-if false true i i' k o o' e s h g = absurd (false≢true (sym e))

module _ (funs : List Fun) (enter : Entering) (w : Counts) (p : InlineContext) (b : ℕ) where
  labels-fit : (ls : Labels) (n : ℕ) (ss ss' : Scoped) → LabelsFit b ss ss' → LabelsFit b (scoped ls ++ ss) (scoped (copied_labels funs enter w p b ls n) ++ ss')
  labels-fit none n ss ss' h = h
  labels-fit (label m xs t ls) n ss ss' h = λ l k i.
      fits-if (m == l) (b + m == b + l) (length xs) (length (moved b xs)) k (arity l (scoped ls ++ ss)) (arity (b + l) (scoped (copied_labels funs enter w p b ls (n + term_count funs w t)) ++ ss')) (eq-moved b m l) (length-map xs (λ x. b + x))
      (labels-fit ls (n + term_count funs w t) ss ss' h l k) i

  old-labels : (ls : Labels) (n l : ℕ) (ss' : Scoped) → l < b → arity l (scoped (copied_labels funs enter w p b ls n) ++ ss') ≡ arity l ss'
  old-labels none n l ss' lt = refl
  old-labels (label m xs t ls) n l ss' lt =
      ap (λ c. if c then Some (length (moved b xs)) else arity l (scoped (copied_labels funs enter w p b ls (n + term_count funs w t)) ++ ss')) (ne_eqb (b + m) l (λ (e : b + m ≡ l). omega arith)) ∙ old-labels ls (n + term_count funs w t) l ss' lt

-- ---- places

-- a label takes N words, or an end takes at most 8
abbrev pub Gives : Option ℕ → ℕ → Scoped → Type 0
Gives (Some l) n ss = takes ss l n ≡ true
Gives None n ss = n ≤ 8

abbrev pub Catches : Option ℕ → ℕ → Scoped → Type 0
Catches (Some l) n ss = takes ss l n ≡ true
Catches None n ss = Unit {0}

pub record Stands (funs : List Fun) (words : ℕ → ℕ) (group n : ℕ) (p : InlineContext) (ss : Scoped) : Type 0 where
  pub to : Gives p.to n ss
  pub handlers : (e : ℕ) → Catches (handler_of e p.handlers) (words e) ss
  pub own : (i : ℕ) (g : Fun) → slice_get funs i ≡ Some g → g.group ≡ group → g.results ≡ n → takes ss (p.first + i) (length g.params) ≡ true

-- where more labels are in scope, which lie elsewhere
abbrev pub Keeps : ℕ → Scoped → Scoped → Type 0
Keeps b ss ss' = (l : ℕ) → l < b → arity l ss' ≡ arity l ss

gives-more : (b : ℕ) (o : Option ℕ) (n : ℕ) (ss ss' : Scoped) → Keeps b ss ss' → IsBelow b o → Gives o n ss → Gives o n ss'
gives-more b (Some l) n ss ss' h lt g = ap (takes_as_many n) (h l lt) ∙ g
gives-more b None n ss ss' h lt g = g

catches-more : (b : ℕ) (o : Option ℕ) (n : ℕ) (ss ss' : Scoped) → Keeps b ss ss' → IsBelow b o → Catches o n ss → Catches o n ss'
catches-more b (Some l) n ss ss' h lt g = ap (takes_as_many n) (h l lt) ∙ g
catches-more b None n ss ss' h lt g = tt

stands-more : (funs : List Fun) (words : ℕ → ℕ) (own n b : ℕ) (p : InlineContext) (ss ss' : Scoped) → Below funs b p → Keeps b ss ss' → Stands funs words own n p ss → Stands funs words own n p ss'
stands-more funs words own n b p ss ss' below h s = record {
  to = gives-more b p.to n ss ss' h below.to s.to;
  handlers = λ e. catches-more b (handler_of e p.handlers) (words e) ss ss' h (below.handlers e) (s.handlers e);
  own = λ i g there eg en.
      let lt : i < length funs = slice_get_within funs i g there in
      let le : p.first + length funs ≤ b = below.first in
      ap (takes_as_many (length g.params)) (h (p.first + i) (omega arith)) ∙ s.own i g there eg en;
}

-- ---- calls

pub record EntersFormed (funs top : List Fun) (r : ℕ) (words : ℕ → ℕ) (own : ℕ) (enter : Entering) : Type 0 where
  pub by : (i : ℕ) (f : Fun) → slice_get funs i ≡ Some f → f.group < own → (n : ℕ) (bs : List Atom) (to : Option ℕ) (hs : List Handler) (ss' : Scoped) (known' : List ℕ) → all_known known' bs ≡ true → length bs ≡ length f.params → IsBelow n to → ((e : ℕ) → IsBelow n (handler_of e hs))
      → Gives to f.results ss' → ((e : ℕ) → Catches (handler_of e hs) (words e) ss') → is_formed top 0 r ss' known' (enter i f bs to hs n) ≡ true

return_term-formed : (top : List Fun) (r k : ℕ) (ss' : Scoped) (known' : List ℕ) (o : Option ℕ) (e : ℕ) (bs : List Atom) → all_known known' bs ≡ true → length bs ≡ k → Catches o k ss' → (o ≡ None → k ≤ 8) → is_formed top 0 r ss' known' (return_term o e bs) ≡ true
return_term-formed top r k ss' known' (Some l) e bs known long c small = and_from (all_known known' bs) (takes ss' l (length bs)) known (ap (λ x. takes ss' l x) long ∙ c)
return_term-formed top r k ss' known' None e bs known long c small =
    let le : k ≤ 8 = small refl in
    let test : nat_le (length bs) 8 ≡ true = grind (arith, nat_tests) in
    and_from (all_known known' bs) (nat_le (length bs) 8) known test

gives-catches : (o : Option ℕ) (n : ℕ) (ss : Scoped) → Gives o n ss → Catches o n ss
gives-catches (Some l) n ss g = g
gives-catches None n ss g = tt

gives-small : (o : Option ℕ) (n : ℕ) (ss : Scoped) → Gives o n ss → o ≡ None → n ≤ 8
gives-small (Some l) n ss g e = absurd (none-some l (sym e))
gives-small None n ss g e = g

catches-if : (t : Bool) (l : ℕ) (o : Option ℕ) (n : ℕ) (ss : Scoped) → (t ≡ true → takes ss l n ≡ true) → Catches o n ss → Catches (if t then Some l else o) n ss
catches-if true l o n ss h g = h refl
catches-if false l o n ss h g = g

arity-told : (words : ℕ → ℕ) (e : ℕ) (o : Option ℕ) → is_there o ≡ true → Told words (handled_words e o) → takes_as_many (words e) o ≡ true
arity-told words e (Some k) there told = eq-eqb k (words e) told.0
arity-told words e None there told = absurd (false≢true there)

call-catches : (words : ℕ → ℕ) (b : ℕ) (hs ks : List Handler) (ss ss' : Scoped) → LabelsFit b ss ss' → are_handlers ss hs ≡ true → Told words (handled ss hs) → ((e : ℕ) → Catches (handler_of e ks) (words e) ss') → (e : ℕ) → Catches (handler_of e (moved_handlers b hs ++ ks)) (words e) ss'
call-catches words b [] ks ss ss' fit ok told h e = h e
call-catches words b (x ∷ hs) ks ss ss' fit ok told h e =
    let parts = and_parts (nat_le 1 x.0 && is_there (arity x.1 ss)) (are_handlers ss hs) ok in
    let there = (and_parts (nat_le 1 x.0) (is_there (arity x.1 ss)) parts.0).1 in
    catches-if (nat_eq x.0 e) (b + x.1) (handler_of e (moved_handlers b hs ++ ks)) (words e) ss'
    (λ t. subst (λ y. takes ss' (b + x.1) (words y) ≡ true) (eqb-true x.0 e t) (fit x.1 (words x.0) (arity-told words x.0 (arity x.1 ss) there (told-left words (handled_words x.0 (arity x.1 ss)) (handled ss hs) told))))
    (call-catches words b hs ks ss ss' fit parts.1 (told-right words (handled_words x.0 (arity x.1 ss)) (handled ss hs) told) h e)

-- what a call of an earlier group tells
call-tells : (own given : ℕ) (ss : Scoped) (k : ℕ) (g : Fun) → can_call own given ss k (Some g) ≡ true → (length g.params ≡ given) × (takes ss k g.results ≡ true)
call-tells own given ss k g h =
    let parts = and_parts (length g.params == given) (takes ss k g.results && nat_lt g.group own) h in
    (eqb-true (length g.params) given parts.0, (and_parts (takes ss k g.results) (nat_lt g.group own) parts.1).0)

call-formed : (funs top : List Fun) (r : ℕ) (words : ℕ → ℕ) (own n : ℕ) (enter : Entering) → EntersFormed funs top r words own enter → (b s next i k : ℕ) (bs : List Atom) (hs : List Handler) (p : InlineContext) (ss ss' : Scoped) (known' : List ℕ) (o : Option Fun) → slice_get funs i ≡ o → can_call own (length bs) ss k o ≡ true
    → k + 1 ≤ s → after_handlers hs ≤ s → b + s ≤ next → Below funs b p → Stands funs words own n p ss' → LabelsFit b ss ss' → are_handlers ss hs ≡ true → Told words (handled ss hs) → all_known known' (moved_atoms b bs) ≡ true
    → is_formed top 0 r ss' known' (entered_call enter i o (moved_atoms b bs) (Some (b + k)) (moved_handlers b hs ++ p.handlers) next) ≡ true
call-formed funs top r words own n enter h b s next i k bs hs p ss ss' known' None there can lk lh far below stands fit ok told known = absurd (false≢true can)
call-formed funs top r words own n enter h b s next i k bs hs p ss ss' known' (Some g) there can lk lh far below stands fit ok told known =
    let tells = call-tells own (length bs) ss k g can in
    h.by i g there (earlier-group own (length bs) ss k g can) next (moved_atoms b bs) (Some (b + k)) (moved_handlers b hs ++ p.handlers) ss' known' known (length-map bs (moved_atom b) ∙ sym tells.0)
    (to-below b s next k lk far) (λ e. handlers-below b s next e hs p.handlers lh far (below-more b next (handler_of e p.handlers) (omega arith) (below.handlers e)))
    (fit k g.results tells.1) (call-catches words b hs p.handlers ss ss' fit ok told stands.handlers)

own-formed : (funs : List Fun) (words : ℕ → ℕ) (own n : ℕ) (b i : ℕ) (bs : List Atom) (p : InlineContext) (ss' : Scoped) (o : Option Fun) → slice_get funs i ≡ o → can_go own (length bs) n o ≡ true → Stands funs words own n p ss' → takes ss' (p.first + i) (length (moved_atoms b bs)) ≡ true
own-formed funs words own n b i bs p ss' None there can stands = absurd (false≢true can)
own-formed funs words own n b i bs p ss' (Some g) there can stands =
    let parts = and_parts (length g.params == length bs) ((g.results == n) && (g.group == own)) can in
    let rest = and_parts (g.results == n) (g.group == own) parts.1 in
    ap (λ x. takes ss' (p.first + i) x) (length-map bs (moved_atom b) ∙ sym (eqb-true (length g.params) (length bs) parts.0)) ∙ stands.own i g there (eqb-true g.group own rest.1) (eqb-true g.results n rest.0)

-- ---- terms

module _ (funs top : List Fun) (r : ℕ) (words : ℕ → ℕ) (own n : ℕ) (enter : Entering) (enters : EntersFormed funs top r words own enter) (wc : Counts) (p : InlineContext) (b s : ℕ) (below : Below funs b p) where
  mutual
    pub term-formed : (t : Term) (ss : Scoped) (known : List ℕ) → is_formed funs own n ss known t ≡ true → Told words (raised ss t) → term_span t ≤ s → (next : ℕ) → b + s ≤ next → (ss' : Scoped) (known' : List ℕ) → LabelsFit b ss ss' → KnownFit b known known' → Stands funs words own n p ss'
        → is_formed top 0 r ss' known' (copied funs enter wc p b t next) ≡ true
    term-formed (Let x a t) ss known f told le next far ss' known' fit kf st =
        let parts = and_parts (is_primitive known a) (is_formed funs own n ss (x ∷ known) t) f in
        and_from (is_primitive known' (moved_primitive b a)) (is_formed top 0 r ss' ((b + x) ∷ known') (copied funs enter wc p b t next)) (prim-fits b known known' kf a parts.0)
        (term-formed t ss (x ∷ known) parts.1 told (omega arith) next far ss' ((b + x) ∷ known') fit (known-one b x known known' kf) st)
    term-formed (Read m xs a t) ss known f told le next far ss' known' fit kf st =
        let p1 = and_parts (is_known known a) (can_move m (length xs) && (is_address m a (length xs) && is_formed funs own n ss (xs ++ known) t)) f in
        let p2 = and_parts (can_move m (length xs)) (is_address m a (length xs) && is_formed funs own n ss (xs ++ known) t) p1.1 in
        let p3 = and_parts (is_address m a (length xs)) (is_formed funs own n ss (xs ++ known) t) p2.1 in
        let long = length-map xs (λ x. b + x) in
        let rest = is_formed top 0 r ss' (moved b xs ++ known') (copied funs enter wc p b t next) in
        and_from (is_known known' (moved_atom b a)) (can_move m (length (moved b xs)) && (is_address m (moved_atom b a) (length (moved b xs)) && rest)) (atom-fits b known known' kf a p1.0)
        (and_from (can_move m (length (moved b xs))) (is_address m (moved_atom b a) (length (moved b xs)) && rest) (ap (can_move m) long ∙ p2.0)
        (and_from (is_address m (moved_atom b a) (length (moved b xs))) rest (ap (is_address m (moved_atom b a)) long ∙ address-fits b m a (length xs) p3.0)
        (term-formed t ss (xs ++ known) p3.1 told (omega arith) next far ss' (moved b xs ++ known') fit (known-more b xs known known' kf) st)))
    term-formed (Write m a bs t) ss known f told le next far ss' known' fit kf st =
        let p1 = and_parts (is_known known a) (all_known known bs && (can_move m (length bs) && (is_address m a (length bs) && is_formed funs own n ss known t))) f in
        let p2 = and_parts (all_known known bs) (can_move m (length bs) && (is_address m a (length bs) && is_formed funs own n ss known t)) p1.1 in
        let p3 = and_parts (can_move m (length bs)) (is_address m a (length bs) && is_formed funs own n ss known t) p2.1 in
        let p4 = and_parts (is_address m a (length bs)) (is_formed funs own n ss known t) p3.1 in
        let long = length-map bs (moved_atom b) in
        let rest = is_formed top 0 r ss' known' (copied funs enter wc p b t next) in
        and_from (is_known known' (moved_atom b a)) (all_known known' (moved_atoms b bs) && (can_move m (length (moved_atoms b bs)) && (is_address m (moved_atom b a) (length (moved_atoms b bs)) && rest))) (atom-fits b known known' kf a p1.0)
        (and_from (all_known known' (moved_atoms b bs)) (can_move m (length (moved_atoms b bs)) && (is_address m (moved_atom b a) (length (moved_atoms b bs)) && rest)) (atoms-fit b known known' kf bs p2.0)
        (and_from (can_move m (length (moved_atoms b bs))) (is_address m (moved_atom b a) (length (moved_atoms b bs)) && rest) (ap (can_move m) long ∙ p3.0)
        (and_from (is_address m (moved_atom b a) (length (moved_atoms b bs))) rest (ap (is_address m (moved_atom b a)) long ∙ address-fits b m a (length bs) p4.0)
        (term-formed t ss known p4.1 told (omega arith) next far ss' known' fit kf st))))
    term-formed (If c a d t u) ss known f told le next far ss' known' fit kf st =
        let p1 = and_parts (is_known known a) (is_known known d && (is_formed funs own n ss known t && is_formed funs own n ss known u)) f in
        let p2 = and_parts (is_known known d) (is_formed funs own n ss known t && is_formed funs own n ss known u) p1.1 in
        let p3 = and_parts (is_formed funs own n ss known t) (is_formed funs own n ss known u) p2.1 in
        let first = is_formed top 0 r ss' known' (copied funs enter wc p b t next) in
        let second = is_formed top 0 r ss' known' (copied funs enter wc p b u (next + term_count funs wc t)) in
        and_from (is_known known' (moved_atom b a)) (is_known known' (moved_atom b d) && (first && second)) (atom-fits b known known' kf a p1.0)
        (and_from (is_known known' (moved_atom b d)) (first && second) (atom-fits b known known' kf d p2.0)
        (and_from first second (term-formed t ss known p3.0 (told-left words (raised ss t) (raised ss u) told) (omega arith) next far ss' known' fit kf st)
        (term-formed u ss known p3.1 (told-right words (raised ss t) (raised ss u) told) (omega arith) (next + term_count funs wc t) (omega arith) ss' known' fit kf st)))
    term-formed (Fix ls t) ss known f told le next far ss' known' fit kf st =
        let parts = and_parts (are_formed funs own n (scoped ls ++ ss) known ls) (is_formed funs own n (scoped ls ++ ss) known t) f in
        let low = start-far b s (is_one ls) next (term_count funs wc t) far in
        let high = start-far-other b s (is_one ls) next (labels_count funs wc ls) far in
        let from = if is_one ls then next + term_count funs wc t else next in
        let ls' = copied_labels funs enter wc p b ls (if is_one ls then next + term_count funs wc t else next) in
        let ss2 = scoped (copied_labels funs enter wc p b ls (if is_one ls then next + term_count funs wc t else next)) ++ ss' in
        let fit2 = labels-fit funs enter wc p b ls (if is_one ls then next + term_count funs wc t else next) ss ss' fit in
        let st2 = stands-more funs words own n b p ss' ss2 below (λ l lt. old-labels funs enter wc p b ls (if is_one ls then next + term_count funs wc t else next) l ss' lt) st in
        and_from (are_formed top 0 r ss2 known' ls') (is_formed top 0 r ss2 known' (copied funs enter wc p b t (if is_one ls then next else next + labels_count funs wc ls)))
        (labels-formed ls (scoped ls ++ ss) known parts.0 (told-left words (labels_raised (scoped ls ++ ss) ls) (raised (scoped ls ++ ss) t) told) (omega arith) (if is_one ls then next + term_count funs wc t else next) low ss2 known' fit2 kf st2)
        (term-formed t (scoped ls ++ ss) known parts.1 (told-right words (labels_raised (scoped ls ++ ss) ls) (raised (scoped ls ++ ss) t) told) (omega arith) (if is_one ls then next else next + labels_count funs wc ls) high ss2 known' fit2 kf st2)
    term-formed (Call i bs (Some k) hs) ss known f told le next far ss' known' fit kf st =
        let p1 = and_parts (all_known known bs) (is_call funs own n ss i (length bs) (Some k) hs) f in
        let p2 = and_parts (can_call own (length bs) ss k (slice_get funs i)) (are_handlers ss hs) p1.1 in
        call-formed funs top r words own n enter enters b s next i k bs hs p ss ss' known' (slice_get funs i) refl p2.0 (omega arith) (omega arith) far below st fit p2.1 told (atoms-fit b known known' kf bs p1.0)
    term-formed (Call i bs None []) ss known f told le next far ss' known' fit kf st =
        let p1 = and_parts (all_known known bs) (is_call funs own n ss i (length bs) None []) f in
        and_from (all_known known' (moved_atoms b bs)) (takes ss' (p.first + i) (length (moved_atoms b bs))) (atoms-fit b known known' kf bs p1.0) (own-formed funs words own n b i bs p ss' (slice_get funs i) refl p1.1 st)
    term-formed (Call i bs None (x ∷ hs)) ss known f told le next far ss' known' fit kf st = absurd (false≢true (and_parts (all_known known bs) false f).1)
    term-formed (Return bs) ss known f told le next far ss' known' fit kf st =
        let p1 = and_parts (all_known known bs) (length bs == n) f in
        return_term-formed top r n ss' known' p.to 0 (moved_atoms b bs) (atoms-fit b known known' kf bs p1.0) (length-map bs (moved_atom b) ∙ eqb-true (length bs) n p1.1) (gives-catches p.to n ss' st.to) (gives-small p.to n ss' st.to)
    term-formed (Throw e bs) ss known f told le next far ss' known' fit kf st =
        let p1 = and_parts (all_known known bs) (nat_le 1 e && nat_le (length bs) 8) f in
        let small : nat_le (length bs) 8 ≡ true = (and_parts (nat_le 1 e) (nat_le (length bs) 8) p1.1).1 in
        let few : length bs ≤ 8 = grind (arith, nat_tests) in
        let many : length bs ≡ words e = told.0 in
        return_term-formed top r (words e) ss' known' (handler_of e p.handlers) e (moved_atoms b bs) (atoms-fit b known known' kf bs p1.0) (length-map bs (moved_atom b) ∙ many) (st.handlers e) (λ x. omega arith)
    term-formed (Jump l bs) ss known f told le next far ss' known' fit kf st =
        let p1 = and_parts (all_known known bs) (takes ss l (length bs)) f in
        and_from (all_known known' (moved_atoms b bs)) (takes ss' (b + l) (length (moved_atoms b bs))) (atoms-fit b known known' kf bs p1.0) (ap (λ x. takes ss' (b + l) x) (length-map bs (moved_atom b)) ∙ fit l (length bs) p1.1)
    term-formed (Halt e bs) ss known f told le next far ss' known' fit kf st =
        let p1 = and_parts (all_known known bs) (nat_le (length bs) 8) f in
        and_from (all_known known' (moved_atoms b bs)) (nat_le (length (moved_atoms b bs)) 8) (atoms-fit b known known' kf bs p1.0) (ap (λ x. nat_le x 8) (length-map bs (moved_atom b)) ∙ p1.1)

    labels-formed : (ls : Labels) (ss : Scoped) (known : List ℕ) → are_formed funs own n ss known ls ≡ true → Told words (labels_raised ss ls) → labels_span ls ≤ s → (next : ℕ) → b + s ≤ next → (ss' : Scoped) (known' : List ℕ) → LabelsFit b ss ss' → KnownFit b known known' → Stands funs words own n p ss'
        → are_formed top 0 r ss' known' (copied_labels funs enter wc p b ls next) ≡ true
    labels-formed none ss known f told le next far ss' known' fit kf st = refl
    labels-formed (label k xs t ls) ss known f told le next far ss' known' fit kf st =
        let parts = and_parts (is_formed funs own n ss (xs ++ known) t) (are_formed funs own n ss known ls) f in
        and_from (is_formed top 0 r ss' (moved b xs ++ known') (copied funs enter wc p b t next)) (are_formed top 0 r ss' known' (copied_labels funs enter wc p b ls (next + term_count funs wc t)))
        (term-formed t ss (xs ++ known) parts.0 (told-left words (raised ss t) (labels_raised ss ls) told) (omega arith) next far ss' (moved b xs ++ known') fit (known-more b xs known known' kf) st)
        (labels-formed ls ss known parts.1 (told-right words (raised ss t) (labels_raised ss ls) told) (omega arith) (next + term_count funs wc t) (omega arith) ss' known' fit kf st)

-- ---- groups

scoped-either : (t : Bool) (ls ks : Labels) (ss : Scoped) (o : Option ℕ) (l : ℕ) → arity l (scoped ls ++ ss) ≡ o → arity l (scoped ks ++ ss) ≡ o → arity l (scoped (if t then ls else ks) ++ ss) ≡ o
scoped-either true ls ks ss o l h g = h
scoped-either false ls ks ss o l h g = g

module _ (funs : List Fun) (enter : Entering) (w : Counts) (f : Fun) (p : InlineContext) (ss : Scoped) where
  group-keeps : (j : ℕ) (gs : List Fun) (n : ℕ) → Keeps p.first ss (scoped (copies funs enter w f p j gs n) ++ ss)
  group-keeps j [] n l lt = refl
  group-keeps j (g ∷ gs) n l lt =
      scoped-either (is_copied f g) (label (p.first + j) (moved n g.params) (copied funs enter w p n g.body (n + span g)) (copies funs enter w f p (suc j) gs (n + copy_count funs w g))) (copies funs enter w f p (suc j) gs n) ss (arity l ss) l
      (ap (λ c. if c then Some (length (moved n g.params)) else arity l (scoped (copies funs enter w f p (suc j) gs (n + copy_count funs w g)) ++ ss)) (ne_eqb (p.first + j) l (λ (e : p.first + j ≡ l). omega arith)) ∙ group-keeps (suc j) gs (n + copy_count funs w g) l lt)
      (group-keeps (suc j) gs n l lt)

  takes-either : (t : Bool) (ls ks : Labels) (l k : ℕ) → takes (scoped ls ++ ss) l k ≡ true → takes (scoped ks ++ ss) l k ≡ true → takes (scoped (if t then ls else ks) ++ ss) l k ≡ true
  takes-either true ls ks l k h g = h
  takes-either false ls ks l k h g = g

  takes-head : (t : Bool) → t ≡ true → (l l' k n : ℕ) (xs : List ℕ) → l ≡ l' → length xs ≡ k → (u : Term) (rest ks : Labels) → takes (scoped (if t then label l (moved n xs) u rest else ks) ++ ss) l' k ≡ true
  takes-head true e l l' k n xs same long u rest ks =
      ap (λ c. takes_as_many k (if c then Some (length (moved n xs)) else arity l' (scoped rest ++ ss))) (eq-eqb l l' same) ∙ eq-eqb (length (moved n xs)) k (length-map xs (λ x. n + x) ∙ long)
  takes-head false e l l' k n xs same long u rest ks = absurd (false≢true e)

  group-takes : (j : ℕ) (gs : List Fun) (n i l : ℕ) (g : Fun) → l ≡ p.first + (j + i) → slice_get gs i ≡ Some g → is_copied f g ≡ true → takes (scoped (copies funs enter w f p j gs n) ++ ss) l (length g.params) ≡ true
  group-takes j [] n i l g el e c = absurd (none-some g e)
  group-takes j (h ∷ gs) n zero l g el e c =
      let same : h ≡ g = same_Some h g e in
      takes-head (is_copied f h) (ap (is_copied f) same ∙ c) (p.first + j) l (length g.params) n h.params (omega arith) (ap (λ x. length x.params) same) (copied funs enter w p n h.body (n + span h)) (copies funs enter w f p (suc j) gs (n + copy_count funs w h)) (copies funs enter w f p (suc j) gs n)
  group-takes j (h ∷ gs) n (suc i) l g el e c =
      takes-either (is_copied f h) (label (p.first + j) (moved n h.params) (copied funs enter w p n h.body (n + span h)) (copies funs enter w f p (suc j) gs (n + copy_count funs w h))) (copies funs enter w f p (suc j) gs n) l (length g.params)
      (ap (λ t. takes_as_many (length g.params) (if t then Some (length (moved n h.params)) else arity l (scoped (copies funs enter w f p (suc j) gs (n + copy_count funs w h)) ++ ss))) (ne_eqb (p.first + j) l (λ (s : p.first + j ≡ l). omega arith))
      ∙ group-takes (suc j) gs (n + copy_count funs w h) i l g (omega arith) e c)
      (group-takes (suc j) gs n i l g (omega arith) e c)

-- a program's functions, as its form tells of them
pub record FunctionsFormed (funs : List Fun) (words : ℕ → ℕ) (gs : List Fun) : Type 0 where
  pub formed : list_all (is_function funs) gs ≡ true
  pub told : Told words (all_raised gs)

pub function-body : (funs : List Fun) (f g : Fun) → is_copied f g ≡ true → is_function funs g ≡ true → is_formed funs f.group f.results [] g.params g.body ≡ true
function-body funs f g c h =
    let parts = and_parts (g.group == f.group) (g.results == f.results) c in
    ap (λ x. is_formed funs x f.results [] g.params g.body) (sym (eqb-true g.group f.group parts.0)) ∙ ap (λ x. is_formed funs g.group x [] g.params g.body) (sym (eqb-true g.results f.results parts.1))
    ∙ (and_parts (is_formed funs g.group g.results [] g.params g.body) (all_different (g.params ++ defined g.body) && all_different (made g.body)) h).0

formed-either : (top : List Fun) (r : ℕ) (ss : Scoped) (known : List ℕ) (t : Bool) (ls ks : Labels) → (t ≡ true → are_formed top 0 r ss known ls ≡ true) → are_formed top 0 r ss known ks ≡ true → are_formed top 0 r ss known (if t then ls else ks) ≡ true
formed-either top r ss known true ls ks h g = h refl
formed-either top r ss known false ls ks h g = g

nothing-fits : (b : ℕ) (ss : Scoped) → LabelsFit b [] ss
nothing-fits b ss l k h = absurd (false≢true h)

module _ (funs top : List Fun) (r : ℕ) (words : ℕ → ℕ) (enter : Entering) (wc : Counts) (f : Fun) (enters : EntersFormed funs top r words f.group enter) (p : InlineContext) (least : ℕ) (below : Below funs least p) (ss : Scoped) (known : List ℕ) (stands : Stands funs words f.group f.results p ss) where
  copies-formed : (j : ℕ) (gs : List Fun) (n : ℕ) → least ≤ n → FunctionsFormed funs words gs → are_formed top 0 r ss known (copies funs enter wc f p j gs n) ≡ true
  copies-formed j [] n le h = refl
  copies-formed j (g ∷ gs) n le h =
      let parts = and_parts (is_function funs g) (list_all (is_function funs) gs) h.formed in
      let rest : FunctionsFormed funs words gs = record { formed = parts.1; told = told-right words (raised [] g.body) (all_raised gs) h.told } in
      let at : Below funs n p = record { first = (let x = below.first in omega arith); to = below-more least n p.to le below.to; handlers = λ e. below-more least n (handler_of e p.handlers) le (below.handlers e) } in
      formed-either top r ss known (is_copied f g) _ (copies funs enter wc f p (suc j) gs n)
      (λ c. and_from (is_formed top 0 r ss (moved n g.params ++ known) (copied funs enter wc p n g.body (n + span g))) (are_formed top 0 r ss known (copies funs enter wc f p (suc j) gs (n + copy_count funs wc g)))
      (term-formed funs top r words f.group f.results enter enters wc p n (span g) at g.body [] g.params (function-body funs f g c parts.0) (told-left words (raised [] g.body) (all_raised gs) h.told) (omega arith) (n + span g) (omega arith) ss (moved n g.params ++ known) (nothing-fits n ss) (known-params n g.params known) stands)
      (copies-formed (suc j) gs (n + copy_count funs wc g) (omega arith) rest))
      (copies-formed (suc j) gs n le rest)

pub entered-formed : (funs top : List Fun) (r : ℕ) (words : ℕ → ℕ) → FunctionsFormed funs words funs → (enter : Entering) (wc : Counts) (i : ℕ) (f : Fun) → EntersFormed funs top r words f.group enter → slice_get funs i ≡ Some f → (n : ℕ) (bs : List Atom) (to : Option ℕ) (hs : List Handler) (ss : Scoped) (known : List ℕ)
    → all_known known bs ≡ true → length bs ≡ length f.params → IsBelow n to → ((e : ℕ) → IsBelow n (handler_of e hs)) → Gives to f.results ss → ((e : ℕ) → Catches (handler_of e hs) (words e) ss) → is_formed top 0 r ss known (entered funs enter wc i f bs to hs n) ≡ true
entered-formed funs top r words functions enter wc i f enters there n bs to hs ss known ok long lt lts gives catches =
    let p : InlineContext = record { first = n; to = to; handlers = hs } in
    let ss2 = scoped (copies funs enter wc f (record { first = n; to = to; handlers = hs }) 0 funs (n + length funs)) ++ ss in
    let keeps = group-keeps funs enter wc f (record { first = n; to = to; handlers = hs }) ss 0 funs (n + length funs) in
    let below : Below funs (n + length funs) (record { first = n; to = to; handlers = hs }) = record { first = omega arith; to = below-more n (n + length funs) to (omega arith) lt; handlers = λ e. below-more n (n + length funs) (handler_of e hs) (omega arith) (lts e) } in
    let stands : Stands funs words f.group f.results (record { first = n; to = to; handlers = hs }) ss2 = record {
      to = gives-more n to f.results ss ss2 keeps lt gives;
      handlers = λ e. catches-more n (handler_of e hs) (words e) ss ss2 keeps (lts e) (catches e);
      own = λ k g at eg en. group-takes funs enter wc f (record { first = n; to = to; handlers = hs }) ss 0 funs (n + length funs) k (n + k) g (omega arith) at (class-from f g eg en);
    } in
    and_from (are_formed top 0 r ss2 known (copies funs enter wc f (record { first = n; to = to; handlers = hs }) 0 funs (n + length funs))) (all_known known bs && takes ss2 (n + i) (length bs))
    (copies-formed funs top r words enter wc f enters (record { first = n; to = to; handlers = hs }) (n + length funs) below ss2 known stands 0 funs (n + length funs) (omega arith) functions)
    (and_from (all_known known bs) (takes ss2 (n + i) (length bs)) ok (ap (λ x. takes ss2 (n + i) x) long ∙ stands.own i f there refl refl))

enter-formed-if : (top : List Fun) (r : ℕ) (ss : Scoped) (known : List ℕ) (t : Bool) (x y : Term) → (t ≡ true → is_formed top 0 r ss known x ≡ true) → (t ≡ false → is_formed top 0 r ss known y ≡ true) → is_formed top 0 r ss known (if t then x else y) ≡ true
enter-formed-if top r ss known true x y h g = h refl
enter-formed-if top r ss known false x y h g = g refl

pub entering-formed : (funs top : List Fun) (r : ℕ) (words : ℕ → ℕ) → FunctionsFormed funs words funs → (own : ℕ) → EntersFormed funs top r words own (entering funs own)
entering-formed funs top r words functions zero = record { by = λ i f there lt. absurd (omega arith) }
entering-formed funs top r words functions (suc own) = record {
  by = λ i f there lt n bs to hs ss known ok long lto lhs gives catches.
      enter-formed-if top r ss known (f.group == own) (entered funs (entering funs own) (counts funs own) i f bs to hs n) (entering funs own i f bs to hs n)
      (λ e. entered-formed funs top r words functions (entering funs own) (counts funs own) i f (subst (λ x. EntersFormed funs top r words x (entering funs own)) (sym (eqb-true f.group own e)) (entering-formed funs top r words functions own)) there n bs to hs ss known ok long lto lhs gives catches)
      (λ e. (entering-formed funs top r words functions own).by i f there (group-less f.group own lt e) n bs to hs ss known ok long lto lhs gives catches);
}
