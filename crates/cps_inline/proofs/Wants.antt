-- What the copies want at their places, and how wide these are.
use Rattle.std.proofs.Common.{◌≡◌, ℕ, ◌+◌, ◌≤◌, nat_eq, nat_le, ◌==◌, Bool, true, false, ◌&&◌, ◌||◌, not, List, [], ◌∷◌, ◌++◌, length, Option, Some, None, if◌then◌else◌, refl, sym, ap, subst, ◌∙◌, ⊎_elim, arith}
use Rattle.std.proofs.lemmas.Bool.{and_parts, and_from, or_cases, or_left, or_right, false≢true}
use Rattle.std.proofs.lemmas.List.{length-map}
use Rattle.nv_base.specs.declared.term.Atom.{Atom}
use Rattle.nv_base.specs.declared.term.Atom.TheVariants.{Var, Lit}
use Rattle.nv_base.specs.declared.term.Cmp.{Cmp}
use Rattle.nv_base.specs.declared.term.Mem.{Mem}
use Rattle.nv_base.specs.declared.term.Primitive.{Primitive}
use Rattle.nv_base.specs.declared.term.Primitive.TheVariants.{Same, Una as UnaOf, Bin as BinOf}
use Rattle.nv_base.specs.Access.{is_known, all_known, is_primitive, can_move, is_address}
use Rattle.nv_base.specs.Measures.{operands_wide, let_wide, entry_wide}
use Rattle.nv_base.specs.Sets.{is_in, Within, different, without, all_vars}
use Rattle.nv_base.specs.Words.{atom_vars, prim_vars}
use Rattle.nv_base.proofs.Operands.{atom-known, atoms-known, prim-known}
use Rattle.nv_base.proofs.Sets.{in-append, in-without, different-below, different-append, within-left, within-right, within-both, within-without}
use Rattle.cps_ir.specs.Formed.{Scoped, scoped, takes, is_call, is_formed, are_formed}
use Rattle.cps_ir.specs.Term.{Handler, Term, Let, Read, Write, If, Fix, Call, Return, Throw, Jump, Halt, Labels, none, label, Fun}
use Rattle.cps_ir.specs.Wide.{Wants, with_wants, to_wants, handlers_want, kept, wants, labels_want, inside}
use Rattle.cps_inline.specs.inner.Inlined.{moved, moved_atom, moved_atoms, moved_primitive}
use Rattle.cps_inline.proofs.Moved.{eq-moved}
use Rattle.cps_inline.proofs.Names.{came-moved}

-- ---- inclusions

pub in-moved : (b x : ℕ) (xs : List ℕ) → is_in x xs ≡ true → is_in (b + x) (moved b xs) ≡ true
in-moved b x [] h = absurd (false≢true h)
in-moved b x (y ∷ xs) h =
    ⊎_elim
    (λ (e : nat_eq x y ≡ true). or_left (nat_eq (b + x) (b + y)) (is_in (b + x) (moved b xs)) (eq-moved b x y ∙ e))
    (λ (i : is_in x xs ≡ true). or_right (nat_eq (b + x) (b + y)) (is_in (b + x) (moved b xs)) (in-moved b x xs i))
    (or_cases (nat_eq x y) (is_in x xs) h)

-- of a list, those that are moved from another, and some others
pub record Fits (b : ℕ) (held : List ℕ) (a' a : List ℕ) : Type 0 where
  pub by : (x : ℕ) → is_in x a' ≡ true → is_in x (moved b a ++ held) ≡ true

in-either : (x : ℕ) (a b : List ℕ) → (is_in x a || is_in x b) ≡ true → is_in x (a ++ b) ≡ true
in-either x a b h = in-append x a b ∙ h

fits-parts : (b : ℕ) (held a : List ℕ) (x : ℕ) (P : Type 0) → is_in x (moved b a ++ held) ≡ true → ((y : ℕ) → x ≡ b + y → is_in y a ≡ true → P) → (is_in x held ≡ true → P) → P
fits-parts b held a x P h k g =
    ⊎_elim (λ (i : is_in x (moved b a) ≡ true). let c = came-moved b x a i in k c.from c.is c.there) (λ (i : is_in x held ≡ true). g i) (or_cases (is_in x (moved b a)) (is_in x held) (sym (in-append x (moved b a) held) ∙ h))

fits-came : (b : ℕ) (held a : List ℕ) (x y : ℕ) → x ≡ b + y → is_in y a ≡ true → is_in x (moved b a ++ held) ≡ true
fits-came b held a x y e h = in-either x (moved b a) held (or_left (is_in x (moved b a)) (is_in x held) (ap (λ z. is_in z (moved b a)) e ∙ in-moved b y a h))

fits-held : (b : ℕ) (held a : List ℕ) (x : ℕ) → is_in x held ≡ true → is_in x (moved b a ++ held) ≡ true
fits-held b held a x h = in-either x (moved b a) held (or_right (is_in x (moved b a)) (is_in x held) h)

pub fits-none : (b : ℕ) (held a : List ℕ) → Fits b held [] a
fits-none b held a = record { by = λ x h. absurd (false≢true h) }

pub fits-within : (b : ℕ) (held a' a c : List ℕ) → Within a c → Fits b held a' a → Fits b held a' c
fits-within b held a' a c w h = record { by = λ x i. fits-parts b held a x (is_in x (moved b c ++ held) ≡ true) (h.by x i) (λ y e t. fits-came b held c x y e (w y t)) (λ t. fits-held b held c x t) }

pub fits-both : (b : ℕ) (held a' a c' c : List ℕ) → Fits b held a' a → Fits b held c' c → Fits b held (a' ++ c') (a ++ c)
fits-both b held a' a c' c h k = record {
  by = λ x i.
      ⊎_elim
      (λ (j : is_in x a' ≡ true). (fits-within b held a' a (a ++ c) (within-left a c) h).by x j)
      (λ (j : is_in x c' ≡ true). (fits-within b held c' c (a ++ c) (within-right a c) k).by x j)
      (or_cases (is_in x a') (is_in x c') (sym (in-append x a' c') ∙ i));
}

pub fits-moved : (b : ℕ) (held a : List ℕ) → Fits b held (moved b a) a
fits-moved b held a = record { by = λ x i. in-either x (moved b a) held (or_left (is_in x (moved b a)) (is_in x held) i) }

pub fits-in-held : (b : ℕ) (held a' a : List ℕ) → Within a' held → Fits b held a' a
fits-in-held b held a' a w = record { by = λ x i. fits-held b held a x (w x i) }

not-in-moved : (b y : ℕ) (gone : List ℕ) → not (is_in (b + y) (moved b gone)) ≡ true → not (is_in y gone) ≡ true
not-in-moved b y gone h = at (is_in y gone) refl
  where
    at : (c : Bool) → is_in y gone ≡ c → not c ≡ true
    at false e = refl
    at true e = absurd (false≢true (sym (ap not (in-moved b y gone e)) ∙ h))

pub fits-without : (b : ℕ) (held a' a gone : List ℕ) → Fits b held a' a → Fits b held (without a' (moved b gone)) (without a gone)
fits-without b held a' a gone h = record {
  by = λ x i.
      let parts = and_parts (is_in x a') (not (is_in x (moved b gone))) (sym (in-without x a' (moved b gone)) ∙ i) in
      fits-parts b held a x (is_in x (moved b (without a gone) ++ held) ≡ true) (h.by x parts.0)
      (λ y e t. fits-came b held (without a gone) x y e (in-without y a gone ∙ and_from (is_in y a) (not (is_in y gone)) t (not-in-moved b y gone (sym (ap (λ z. not (is_in z (moved b gone))) e) ∙ parts.1))))
      (λ t. fits-held b held (without a gone) x t);
}

-- ---- how many

one-more : (c d : Bool) (m n : ℕ) → (c ≡ true → d ≡ true) → m ≤ n → (if d then m else 1 + m) ≤ (if c then n else 1 + n)
one-more true true m n h le = le
one-more true false m n h le = absurd (false≢true (h refl))
one-more false true m n h le = omega arith
one-more false false m n h le = omega arith

different-moved : (b : ℕ) (a : List ℕ) → different (moved b a) ≤ different a
different-moved b [] = omega arith
different-moved b (x ∷ a) = one-more (is_in x a) (is_in (b + x) (moved b a)) (different (moved b a)) (different a) (λ h. in-moved b x a h) (different-moved b a)

pub fits-different : (b : ℕ) (held a' a : List ℕ) → Fits b held a' a → different a' ≤ different held + different a
fits-different b held a' a h =
    let all : different a' ≤ different (moved b a ++ held) = different-below a' (moved b a ++ held) h.by in
    let sum : different (moved b a ++ held) ≤ different (moved b a) + different held = different-append (moved b a) held in
    let same : different (moved b a) ≤ different a = different-moved b a in
    omega arith

pub fits-let : (b : ℕ) (held a' a : List ℕ) → Fits b held a' a → let_wide a' ≤ different held + let_wide a
fits-let b held a' a h = let le : different a' ≤ different held + different a = fits-different b held a' a h in omega arith

pub fits-entry : (b : ℕ) (held a' a : List ℕ) (n n' : ℕ) → n' ≡ n → Fits b held a' a → entry_wide a' n' ≤ different held + entry_wide a n
fits-entry b held a' a n n' e h = let le : different a' ≤ different held + different a = fits-different b held a' a h in omega arith

pub atom-vars-moved : (b : ℕ) (a : Atom) → atom_vars (moved_atom b a) ≡ moved b (atom_vars a)
atom-vars-moved b (Var x) = refl
atom-vars-moved b (Lit v) = refl

map-append : (b : ℕ) (xs ys : List ℕ) → moved b (xs ++ ys) ≡ moved b xs ++ moved b ys
map-append b [] ys = refl
map-append b (x ∷ xs) ys = ap (λ l. (b + x) ∷ l) (map-append b xs ys)

pub all-vars-moved : (b : ℕ) (as' : List Atom) → all_vars (moved_atoms b as') ≡ moved b (all_vars as')
all-vars-moved b [] = refl
all-vars-moved b (a ∷ as') = ap (λ l. l ++ all_vars (moved_atoms b as')) (atom-vars-moved b a) ∙ ap (λ l. moved b (atom_vars a) ++ l) (all-vars-moved b as') ∙ sym (map-append b (atom_vars a) (all_vars as'))

pub prim-vars-moved : (b : ℕ) (p : Primitive) → prim_vars (moved_primitive b p) ≡ moved b (prim_vars p)
prim-vars-moved b (Same a) = atom-vars-moved b a
prim-vars-moved b (UnaOf op a) = atom-vars-moved b a
prim-vars-moved b (BinOf op a c) = ap (λ l. l ++ atom_vars (moved_atom b c)) (atom-vars-moved b a) ∙ ap (λ l. moved b (atom_vars a) ++ l) (atom-vars-moved b c) ∙ sym (map-append b (atom_vars a) (atom_vars c))

pub fits-operands : (b : ℕ) (held a' a : List ℕ) (bs : List Atom) → Fits b held a' a → operands_wide a' (moved_atoms b bs) ≤ different held + operands_wide a bs
fits-operands b held a' a [] h = fits-different b held a' a h
fits-operands b held a' a (c ∷ bs) h =
    let vars : all_vars (moved_atoms b (c ∷ bs)) ≡ moved b (all_vars (c ∷ bs)) = all-vars-moved b (c ∷ bs) in
    let less : Fits b held (without a' (all_vars (moved_atoms b (c ∷ bs)))) (without a (all_vars (c ∷ bs))) = subst (λ l. Fits b held (without a' l) (without a (all_vars (c ∷ bs)))) (sym vars) (fits-without b held a' a (all_vars (c ∷ bs)) h) in
    let le : different (without a' (all_vars (moved_atoms b (c ∷ bs)))) ≤ different held + different (without a (all_vars (c ∷ bs))) = fits-different b held _ _ less in
    let long : length (moved_atoms b bs) ≡ length bs = length-map bs (moved_atom b) in
    omega arith

-- ---- what follows a node in formed code

pub let-rest : (funs : List Fun) (own n : ℕ) (ss : Scoped) (known : List ℕ) (x : ℕ) (a : Primitive) (t : Term) → is_formed funs own n ss known (Let x a t) ≡ true → is_formed funs own n ss (x ∷ known) t ≡ true
let-rest funs own n ss known x a t f = (and_parts (is_primitive known a) (is_formed funs own n ss (x ∷ known) t) f).1

pub read-rest : (funs : List Fun) (own n : ℕ) (ss : Scoped) (known : List ℕ) (m : Mem) (xs : List ℕ) (a : Atom) (t : Term) → is_formed funs own n ss known (Read m xs a t) ≡ true → is_formed funs own n ss (xs ++ known) t ≡ true
read-rest funs own n ss known m xs a t f =
    let p1 = and_parts (is_known known a) (can_move m (length xs) && (is_address m a (length xs) && is_formed funs own n ss (xs ++ known) t)) f in
    let p2 = and_parts (can_move m (length xs)) (is_address m a (length xs) && is_formed funs own n ss (xs ++ known) t) p1.1 in
    (and_parts (is_address m a (length xs)) (is_formed funs own n ss (xs ++ known) t) p2.1).1

pub write-rest : (funs : List Fun) (own n : ℕ) (ss : Scoped) (known : List ℕ) (m : Mem) (a : Atom) (bs : List Atom) (t : Term) → is_formed funs own n ss known (Write m a bs t) ≡ true → is_formed funs own n ss known t ≡ true
write-rest funs own n ss known m a bs t f =
    let p1 = and_parts (is_known known a) (all_known known bs && (can_move m (length bs) && (is_address m a (length bs) && is_formed funs own n ss known t))) f in
    let p2 = and_parts (all_known known bs) (can_move m (length bs) && (is_address m a (length bs) && is_formed funs own n ss known t)) p1.1 in
    let p3 = and_parts (can_move m (length bs)) (is_address m a (length bs) && is_formed funs own n ss known t) p2.1 in
    (and_parts (is_address m a (length bs)) (is_formed funs own n ss known t) p3.1).1

pub if-arms : (funs : List Fun) (own n : ℕ) (ss : Scoped) (known : List ℕ) (c : Cmp) (a d : Atom) (t u : Term) → is_formed funs own n ss known (If c a d t u) ≡ true → (is_formed funs own n ss known t ≡ true) × (is_formed funs own n ss known u ≡ true)
if-arms funs own n ss known c a d t u f =
    let p1 = and_parts (is_known known a) (is_known known d && (is_formed funs own n ss known t && is_formed funs own n ss known u)) f in
    let p2 = and_parts (is_known known d) (is_formed funs own n ss known t && is_formed funs own n ss known u) p1.1 in
    and_parts (is_formed funs own n ss known t) (is_formed funs own n ss known u) p2.1

-- ---- a formed term wants no wider than what is known

-- each label wants no wider than these
pub record AllWithin (phi : Wants) (known : List ℕ) : Type 0 where
  pub by : (l : ℕ) → Within (phi l) known

all-more : (phi : Wants) (known wider : List ℕ) → AllWithin phi known → AllWithin phi (wider ++ known)
all-more phi known wider h = record { by = λ l x i. within-right wider known x (h.by l x i) }

within-if : (c : Bool) (a a' known : List ℕ) → Within a known → Within a' known → Within (if c then a else a') known
within-if true a a' known h g = h
within-if false a a' known h g = g

all-with : (phi : Wants) (ls : Labels) (vs known : List ℕ) → AllWithin phi known → Within vs known → AllWithin (with_wants phi ls vs) known
all-with phi none vs known h w = h
all-with phi (label k xs t ls) vs known h w = record { by = λ l. within-if (nat_eq k l) vs (with_wants phi ls vs l) known w ((all-with phi ls vs known h w).by l) }

handlers-within : (phi : Wants) (hs : List Handler) (known : List ℕ) → AllWithin phi known → Within (handlers_want phi hs) known
handlers-within phi [] known h = λ x i. absurd (false≢true i)
handlers-within phi (y ∷ hs) known h = within-both (phi y.1) (handlers_want phi hs) known (h.by y.1) (handlers-within phi hs known h)

to-within : (phi : Wants) (k : Option ℕ) (known : List ℕ) → AllWithin phi known → Within (to_wants phi k) known
to-within phi (Some l) known h = h.by l
to-within phi None known h = λ x i. absurd (false≢true i)

module _ (funs : List Fun) (own n : ℕ) where
  mutual
    pub wants-known : (t : Term) (ss : Scoped) (known : List ℕ) (phi : Wants) → is_formed funs own n ss known t ≡ true → AllWithin phi known → Within (wants phi t) known
    wants-known (Let x a t) ss known phi f h =
        let parts = and_parts (is_primitive known a) (is_formed funs own n ss (x ∷ known) t) f in
        within-both (prim_vars a) (without (wants phi t) (x ∷ [])) known (prim-known known a parts.0) (within-without (wants phi t) (x ∷ []) known (wants-known t ss (x ∷ known) phi parts.1 (all-more phi known (x ∷ []) h)))
    wants-known (Read m xs a t) ss known phi f h =
        let p1 = and_parts (is_known known a) (can_move m (length xs) && (is_address m a (length xs) && is_formed funs own n ss (xs ++ known) t)) f in
        let p2 = and_parts (can_move m (length xs)) (is_address m a (length xs) && is_formed funs own n ss (xs ++ known) t) p1.1 in
        let p3 = and_parts (is_address m a (length xs)) (is_formed funs own n ss (xs ++ known) t) p2.1 in
        within-both (atom_vars a) (without (wants phi t) xs) known (atom-known known a p1.0) (within-without (wants phi t) xs known (wants-known t ss (xs ++ known) phi p3.1 (all-more phi known xs h)))
    wants-known (Write m a bs t) ss known phi f h =
        let p1 = and_parts (is_known known a) (all_known known bs && (can_move m (length bs) && (is_address m a (length bs) && is_formed funs own n ss known t))) f in
        let p2 = and_parts (all_known known bs) (can_move m (length bs) && (is_address m a (length bs) && is_formed funs own n ss known t)) p1.1 in
        let p3 = and_parts (can_move m (length bs)) (is_address m a (length bs) && is_formed funs own n ss known t) p2.1 in
        let p4 = and_parts (is_address m a (length bs)) (is_formed funs own n ss known t) p3.1 in
        within-both (all_vars (a ∷ bs)) (wants phi t) known (atoms-known known (a ∷ bs) (and_from (is_known known a) (all_known known bs) p1.0 p2.0)) (wants-known t ss known phi p4.1 h)
    wants-known (If c a d t u) ss known phi f h =
        let p1 = and_parts (is_known known a) (is_known known d && (is_formed funs own n ss known t && is_formed funs own n ss known u)) f in
        let p2 = and_parts (is_known known d) (is_formed funs own n ss known t && is_formed funs own n ss known u) p1.1 in
        let p3 = and_parts (is_formed funs own n ss known t) (is_formed funs own n ss known u) p2.1 in
        within-both (all_vars (a ∷ d ∷ [])) (wants phi t ++ wants phi u) known (atoms-known known (a ∷ d ∷ []) (and_from (is_known known a) (all_known known (d ∷ [])) p1.0 (and_from (is_known known d) true p2.0 refl)))
        (within-both (wants phi t) (wants phi u) known (wants-known t ss known phi p3.0 h) (wants-known u ss known phi p3.1 h))
    wants-known (Fix ls t) ss known phi f h =
        let parts = and_parts (are_formed funs own n (scoped ls ++ ss) known ls) (is_formed funs own n (scoped ls ++ ss) known t) f in
        let none-wanted : Within [] known = (λ x i. absurd (false≢true i)) in
        wants-known t (scoped ls ++ ss) known (inside phi ls) parts.1 (all-with phi ls (labels_want (with_wants phi ls []) ls) known h (labels-known ls (scoped ls ++ ss) known (with_wants phi ls []) parts.0 (all-with phi ls [] known h none-wanted)))
    wants-known (Call i bs k hs) ss known phi f h =
        within-both (all_vars bs) (kept phi k hs) known (atoms-known known bs (and_parts (all_known known bs) (is_call funs own n ss i (length bs) k hs) f).0) (within-both (to_wants phi k) (handlers_want phi hs) known (to-within phi k known h) (handlers-within phi hs known h))
    wants-known (Return bs) ss known phi f h = atoms-known known bs (and_parts (all_known known bs) (length bs == n) f).0
    wants-known (Throw e bs) ss known phi f h = atoms-known known bs (and_parts (all_known known bs) (nat_le 1 e && nat_le (length bs) 8) f).0
    wants-known (Jump l bs) ss known phi f h = within-both (all_vars bs) (phi l) known (atoms-known known bs (and_parts (all_known known bs) (takes ss l (length bs)) f).0) (h.by l)
    wants-known (Halt e bs) ss known phi f h = atoms-known known bs (and_parts (all_known known bs) (nat_le (length bs) 8) f).0

    labels-known : (ls : Labels) (ss : Scoped) (known : List ℕ) (phi : Wants) → are_formed funs own n ss known ls ≡ true → AllWithin phi known → Within (labels_want phi ls) known
    labels-known none ss known phi f h = λ x i. absurd (false≢true i)
    labels-known (label l xs t ls) ss known phi f h =
        let parts = and_parts (is_formed funs own n ss (xs ++ known) t) (are_formed funs own n ss known ls) f in
        within-both (without (wants phi t) xs) (labels_want phi ls) known (within-without (wants phi t) xs known (wants-known t ss (xs ++ known) phi parts.0 (all-more phi known xs h))) (labels-known ls ss known phi parts.1 h)
