-- The copies define each variable and make each label once.
use Rattle.std.proofs.Common.{◌≡◌, ℕ, zero, suc, ◌+◌, ◌≤◌, ◌<◌, nat_eq, ◌==◌, Bool, true, false, ◌||◌, not, List, [], ◌∷◌, ◌++◌, length, Option, Some, None, slice_get, if◌then◌else◌, refl, sym, ap, subst, ◌∙◌, ◌⊎◌, ⊎_elim, inl, inr, arith}
use Rattle.std.proofs.lemmas.Bool.{and_parts, and_from, or_cases, or_left, or_right, eq-eqb, eqb-true, false≢true}
use Rattle.nv_base.specs.declared.term.Atom.{Atom}
use Rattle.nv_base.specs.Sets.{is_in, all_different}
use Rattle.nv_base.proofs.Sets.{in-append, within-left, within-right}
use Rattle.cps_ir.specs.Formed.{defined, labels_defined, made, labels_made}
use Rattle.cps_ir.specs.Meaning.{handler_of}
use Rattle.cps_ir.specs.Term.{Handler, Term, Let, Read, Write, If, Fix, Call, Return, Throw, Jump, Halt, Labels, none, label, Fun}
use Rattle.cps_inline.specs.inner.Inlined.{Counts, Entering, InlineContext, return_term, moved, moved_atoms, moved_handlers, behind, term_span, labels_span, span, is_copied, is_one, call_count, term_count, labels_count, copy_count, copies_count, group_count, copied, copied_labels, copies, entered, entered_call, entering, counts}
use Rattle.cps_inline.proofs.Moved.{eq-moved}

-- ---- lists whose members differ

in-parts : (x : ℕ) (a b : List ℕ) → is_in x (a ++ b) ≡ true → (is_in x a ≡ true) ⊎ (is_in x b ≡ true)
in-parts x a b h = or_cases (is_in x a) (is_in x b) (sym (in-append x a b) ∙ h)

not-true : (b : Bool) → not b ≡ true → b ≡ true → ⊥
not-true true h e = false≢true h
not-true false h e = false≢true e

not-from : (b : Bool) → (b ≡ true → ⊥) → not b ≡ true
not-from true h = absurd (h refl)
not-from false h = refl

pub differ-both : (a b : List ℕ) → all_different a ≡ true → all_different b ≡ true → ((x : ℕ) → is_in x a ≡ true → is_in x b ≡ true → ⊥) → all_different (a ++ b) ≡ true
differ-both [] b da db apart = db
differ-both (x ∷ a) b da db apart =
    let parts = and_parts (not (is_in x a)) (all_different a) da in
    and_from (not (is_in x (a ++ b))) (all_different (a ++ b))
    (not-from (is_in x (a ++ b)) (λ h. ⊎_elim (λ (i : is_in x a ≡ true). not-true (is_in x a) parts.0 i) (λ (i : is_in x b ≡ true). apart x (or_left (nat_eq x x) (is_in x a) (eq-eqb x x refl)) i) (in-parts x a b h)))
    (differ-both a b parts.1 db (λ y i j. apart y (or_right (nat_eq y x) (is_in y a) i) j))

pub differ-first : (a b : List ℕ) → all_different (a ++ b) ≡ true → all_different a ≡ true
differ-first [] b h = refl
differ-first (x ∷ a) b h =
    let parts = and_parts (not (is_in x (a ++ b))) (all_different (a ++ b)) h in
    and_from (not (is_in x a)) (all_different a) (not-from (is_in x a) (λ i. not-true (is_in x (a ++ b)) parts.0 (within-left a b x i))) (differ-first a b parts.1)

pub differ-second : (a b : List ℕ) → all_different (a ++ b) ≡ true → all_different b ≡ true
differ-second [] b h = h
differ-second (x ∷ a) b h = differ-second a b (and_parts (not (is_in x (a ++ b))) (all_different (a ++ b)) h).1

pub differ-apart : (a b : List ℕ) → all_different (a ++ b) ≡ true → (x : ℕ) → is_in x a ≡ true → is_in x b ≡ true → ⊥
differ-apart [] b h x i j = false≢true i
differ-apart (y ∷ a) b h x i j =
    let parts = and_parts (not (is_in y (a ++ b))) (all_different (a ++ b)) h in
    ⊎_elim
    (λ (e : nat_eq x y ≡ true). not-true (is_in y (a ++ b)) parts.0 (subst (λ z. is_in z (a ++ b) ≡ true) (eqb-true x y e) (within-right a b x j)))
    (λ (k : is_in x a ≡ true). differ-apart a b parts.1 x k j)
    (or_cases (nat_eq x y) (is_in x a) i)

-- ---- moved lists

-- a member of a moved list is one of the list, moved
pub record Came (b x : ℕ) (xs : List ℕ) : Type 0 where
  pub from : ℕ
  pub is : x ≡ b + from
  pub there : is_in from xs ≡ true

came-later : (b x y : ℕ) (xs : List ℕ) → Came b x xs → Came b x (y ∷ xs)
came-later b x y xs c = record { from = c.from; is = c.is; there = or_right (nat_eq c.from y) (is_in c.from xs) c.there }

pub came-moved : (b x : ℕ) (xs : List ℕ) → is_in x (moved b xs) ≡ true → Came b x xs
came-moved b x [] h = absurd (false≢true h)
came-moved b x (y ∷ xs) h =
    ⊎_elim
    (λ (e : nat_eq x (b + y) ≡ true). record { from = y; is = eqb-true x (b + y) e; there = or_left (nat_eq y y) (is_in y xs) (eq-eqb y y refl) })
    (λ (i : is_in x (moved b xs) ≡ true). came-later b x y xs (came-moved b x xs i))
    (or_cases (nat_eq x (b + y)) (is_in x (moved b xs)) h)

moved-in : (b x : ℕ) (xs : List ℕ) → is_in (b + x) (moved b xs) ≡ is_in x xs
moved-in b x [] = refl
moved-in b x (y ∷ xs) = ap (λ t. t || is_in (b + x) (moved b xs)) (eq-moved b x y) ∙ ap (λ t. nat_eq x y || t) (moved-in b x xs)

pub differ-moved : (b : ℕ) (xs : List ℕ) → all_different xs ≡ true → all_different (moved b xs) ≡ true
differ-moved b [] h = refl
differ-moved b (x ∷ xs) h =
    let parts = and_parts (not (is_in x xs)) (all_different xs) h in and_from (not (is_in (b + x) (moved b xs))) (all_different (moved b xs)) (ap not (moved-in b x xs) ∙ parts.0) (differ-moved b xs parts.1)

pub in-behind : (x : ℕ) (xs : List ℕ) → is_in x xs ≡ true → x < behind xs
in-behind x [] h = absurd (false≢true h)
in-behind x (y ∷ xs) h =
    ⊎_elim
    (λ (e : nat_eq x y ≡ true). let same : x ≡ y = eqb-true x y e in omega arith)
    (λ (i : is_in x xs ≡ true). let lt : x < behind xs = in-behind x xs i in omega arith)
    (or_cases (nat_eq x y) (is_in x xs) h)

-- ---- variables, or labels

abbrev pub pick : Bool → List ℕ → List ℕ
pick true xs = xs
pick false xs = []

abbrev mutual
  -- the variables that a term defines, or the labels that it makes
  pub names : Bool → Term → List ℕ
  names v (Let x a t) = pick v (x ∷ []) ++ names v t
  names v (Read m xs a t) = pick v xs ++ names v t
  names v (Write m a bs t) = names v t
  names v (If c a b t u) = names v t ++ names v u
  names v (Fix ls t) = names v t ++ labels_names v ls
  names v (Call f bs k hs) = []
  names v (Return bs) = []
  names v (Throw e bs) = []
  names v (Jump l bs) = []
  names v (Halt e bs) = []

  pub labels_names : Bool → Labels → List ℕ
  labels_names v none = []
  labels_names v (label l xs t ls) = ((pick (not v) (l ∷ []) ++ pick v xs) ++ names v t) ++ labels_names v ls

mutual
  pub names-defined : (t : Term) → names true t ≡ defined t
  names-defined (Let x a t) = ap (λ l. x ∷ l) (names-defined t)
  names-defined (Read m xs a t) = ap (λ l. xs ++ l) (names-defined t)
  names-defined (Write m a bs t) = names-defined t
  names-defined (If c a b t u) = ap (λ l. l ++ names true u) (names-defined t) ∙ ap (λ l. defined t ++ l) (names-defined u)
  names-defined (Fix ls t) = ap (λ l. l ++ labels_names true ls) (names-defined t) ∙ ap (λ l. defined t ++ l) (all-defined ls)
  names-defined (Call f bs k hs) = refl
  names-defined (Return bs) = refl
  names-defined (Throw e bs) = refl
  names-defined (Jump l bs) = refl
  names-defined (Halt e bs) = refl

  all-defined : (ls : Labels) → labels_names true ls ≡ labels_defined ls
  all-defined none = refl
  all-defined (label l xs t ls) = ap (λ k. (xs ++ k) ++ labels_names true ls) (names-defined t) ∙ ap (λ k. (xs ++ defined t) ++ k) (all-defined ls)

mutual
  pub names-made : (t : Term) → names false t ≡ made t
  names-made (Let x a t) = names-made t
  names-made (Read m xs a t) = names-made t
  names-made (Write m a bs t) = names-made t
  names-made (If c a b t u) = ap (λ l. l ++ names false u) (names-made t) ∙ ap (λ l. made t ++ l) (names-made u)
  names-made (Fix ls t) = ap (λ l. l ++ labels_names false ls) (names-made t) ∙ ap (λ l. made t ++ l) (all-made ls)
  names-made (Call f bs k hs) = refl
  names-made (Return bs) = refl
  names-made (Throw e bs) = refl
  names-made (Jump l bs) = refl
  names-made (Halt e bs) = refl

  all-made : (ls : Labels) → labels_names false ls ≡ labels_made ls
  all-made none = refl
  all-made (label l xs t ls) = ap (λ k. (l ∷ k) ++ labels_names false ls) (names-made t) ∙ ap (λ k. (l ∷ made t) ++ k) (all-made ls)

pick-one : (v : Bool) (x y n : ℕ) → y + 1 ≤ n → is_in x (pick v (y ∷ [])) ≡ true → x < n
pick-one true x y n le h = let lt : x < behind (y ∷ []) = in-behind x (y ∷ []) h in omega arith
pick-one false x y n le h = absurd (false≢true h)

pick-all : (v : Bool) (x : ℕ) (xs : List ℕ) (n : ℕ) → behind xs ≤ n → is_in x (pick v xs) ≡ true → x < n
pick-all true x xs n le h = let lt : x < behind xs = in-behind x xs h in omega arith
pick-all false x xs n le h = absurd (false≢true h)

-- names are below the span
mutual
  pub names-below : (v : Bool) (t : Term) (x n : ℕ) → term_span t ≤ n → is_in x (names v t) ≡ true → x < n
  names-below v (Let y a t) x n le h =
      ⊎_elim (λ (i : is_in x (pick v (y ∷ [])) ≡ true). pick-one v x y n (omega arith) i) (λ (i : is_in x (names v t) ≡ true). names-below v t x n (omega arith) i) (in-parts x (pick v (y ∷ [])) (names v t) h)
  names-below v (Read m xs a t) x n le h =
      ⊎_elim (λ (i : is_in x (pick v xs) ≡ true). pick-all v x xs n (omega arith) i) (λ (i : is_in x (names v t) ≡ true). names-below v t x n (omega arith) i) (in-parts x (pick v xs) (names v t) h)
  names-below v (Write m a bs t) x n le h = names-below v t x n le h
  names-below v (If c a b t u) x n le h =
      ⊎_elim (λ (i : is_in x (names v t) ≡ true). names-below v t x n (omega arith) i) (λ (i : is_in x (names v u) ≡ true). names-below v u x n (omega arith) i) (in-parts x (names v t) (names v u) h)
  names-below v (Fix ls t) x n le h =
      ⊎_elim (λ (i : is_in x (names v t) ≡ true). names-below v t x n (omega arith) i) (λ (i : is_in x (labels_names v ls) ≡ true). all-below v ls x n (omega arith) i) (in-parts x (names v t) (labels_names v ls) h)
  names-below v (Call f bs k hs) x n le h = absurd (false≢true h)
  names-below v (Return bs) x n le h = absurd (false≢true h)
  names-below v (Throw e bs) x n le h = absurd (false≢true h)
  names-below v (Jump l bs) x n le h = absurd (false≢true h)
  names-below v (Halt e bs) x n le h = absurd (false≢true h)

  all-below : (v : Bool) (ls : Labels) (x n : ℕ) → labels_span ls ≤ n → is_in x (labels_names v ls) ≡ true → x < n
  all-below v none x n le h = absurd (false≢true h)
  all-below v (label l xs t ls) x n le h =
      ⊎_elim
      (λ (i : is_in x ((pick (not v) (l ∷ []) ++ pick v xs) ++ names v t) ≡ true).
      ⊎_elim
      (λ (j : is_in x (pick (not v) (l ∷ []) ++ pick v xs) ≡ true).
      ⊎_elim (λ (k : is_in x (pick (not v) (l ∷ [])) ≡ true). pick-one (not v) x l n (omega arith) k) (λ (k : is_in x (pick v xs) ≡ true). pick-all v x xs n (omega arith) k) (in-parts x (pick (not v) (l ∷ [])) (pick v xs) j))
      (λ (j : is_in x (names v t) ≡ true). names-below v t x n (omega arith) j)
      (in-parts x (pick (not v) (l ∷ []) ++ pick v xs) (names v t) i))
      (λ (i : is_in x (labels_names v ls) ≡ true). all-below v ls x n (omega arith) i)
      (in-parts x ((pick (not v) (l ∷ []) ++ pick v xs) ++ names v t) (labels_names v ls) h)

-- ---- names of copies

-- a list of names: those of another list, moved, and some between two numbers; it differs where the other does
pub record Spread (b : ℕ) (source : List ℕ) (n m : ℕ) (target : List ℕ) : Type 0 where
  pub up : n ≤ m
  pub each : (x : ℕ) → is_in x target ≡ true → (Came b x source) ⊎ ((n ≤ x) × (x < m))
  pub differ : all_different source ≡ true → all_different target ≡ true

spread-none : (b : ℕ) (n : ℕ) → Spread b [] n n []
spread-none b n = record { up = omega arith; each = λ x h. absurd (false≢true h); differ = λ d. refl }

spread-moved : (b : ℕ) (xs : List ℕ) (n : ℕ) → Spread b xs n n (moved b xs)
spread-moved b xs n = record { up = omega arith; each = λ x h. inl (came-moved b x xs h); differ = λ d. differ-moved b xs d }

spread-pick : (v : Bool) (b : ℕ) (xs : List ℕ) (n : ℕ) → Spread b (pick v xs) n n (pick v (moved b xs))
spread-pick true b xs n = spread-moved b xs n
spread-pick false b xs n = spread-none b n

came-left : (b x : ℕ) (a c : List ℕ) → Came b x a → Came b x (a ++ c)
came-left b x a c k = record { from = k.from; is = k.is; there = within-left a c k.from k.there }

came-right : (b x : ℕ) (a c : List ℕ) → Came b x c → Came b x (a ++ c)
came-right b x a c k = record { from = k.from; is = k.is; there = within-right a c k.from k.there }

came-apart : (b x : ℕ) (a c : List ℕ) → all_different (a ++ c) ≡ true → Came b x a → Came b x c → ⊥
came-apart b x a c d i j =
    let same : i.from ≡ j.from = (let e = i.is in let f = j.is in omega arith) in differ-apart a c d i.from i.there (subst (λ y. is_in y c ≡ true) (sym same) j.there)

came-below : (b x s : ℕ) (a : List ℕ) → ((y : ℕ) → is_in y a ≡ true → y < s) → Came b x a → x < b + s
came-below b x s a h k = let e = k.is in let lt : k.from < s = h k.from k.there in omega arith

-- two parts, with the numbers between of one before those of the other; the moved ones are below all
spread-both : (b s : ℕ) (a c : List ℕ) (n m n' m' lo hi : ℕ) (a' c' : List ℕ) → ((y : ℕ) → is_in y (a ++ c) ≡ true → y < s) → b + s ≤ lo → lo ≤ n → lo ≤ n' → m ≤ hi → m' ≤ hi → (m ≤ n') ⊎ (m' ≤ n) → Spread b a n m a' → Spread b c n' m' c' → Spread b (a ++ c) lo hi (a' ++ c')
spread-both b s a c n m n' m' lo hi a' c' below far ln ln' mh mh' order h k = record {
  up = let p = h.up in omega arith;
  each = λ x i.
      ⊎_elim
      (λ (j : is_in x a' ≡ true). ⊎_elim (λ (q : Came b x a). inl (came-left b x a c q)) (λ (q : (n ≤ x) × (x < m)). let q0 = q.0 in let q1 = q.1 in inr (omega arith, omega arith)) (h.each x j))
      (λ (j : is_in x c' ≡ true). ⊎_elim (λ (q : Came b x c). inl (came-right b x a c q)) (λ (q : (n' ≤ x) × (x < m')). let q0 = q.0 in let q1 = q.1 in inr (omega arith, omega arith)) (k.each x j))
      (in-parts x a' c' i);
  differ = λ d.
      differ-both a' c' (h.differ (differ-first a c d)) (k.differ (differ-second a c d))
      (λ x i j.
      ⊎_elim
      (λ (p : Came b x a).
      let lt : x < b + s = came-below b x s a (λ y z. below y (within-left a c y z)) p in
      ⊎_elim (λ (q : Came b x c). came-apart b x a c d p q) (λ (q : (n' ≤ x) × (x < m')). let q0 = q.0 in absurd (omega arith)) (k.each x j))
      (λ (p : (n ≤ x) × (x < m)).
      let p0 = p.0 in
      let p1 = p.1 in
      ⊎_elim
      (λ (q : Came b x c). let lt : x < b + s = came-below b x s c (λ y z. below y (within-right a c y z)) q in absurd (omega arith))
      (λ (q : (n' ≤ x) × (x < m')). let q0 = q.0 in let q1 = q.1 in ⊎_elim (λ (o : m ≤ n'). absurd (omega arith)) (λ (o : m' ≤ n). absurd (omega arith)) order)
      (k.each x j))
      (h.each x i));
}

-- the names of a call's copies: between two numbers, and different
pub record Fresh (n m : ℕ) (target : List ℕ) : Type 0 where
  pub up : n ≤ m
  pub each : (x : ℕ) → is_in x target ≡ true → (n ≤ x) × (x < m)
  pub differ : all_different target ≡ true

pub record Named (v : Bool) (w : Counts) (enter : Entering) : Type 0 where
  pub by : (i : ℕ) (f : Fun) (bs : List Atom) (to : Option ℕ) (hs : List Handler) (n : ℕ) → Fresh n (n + w f) (names v (enter i f bs to hs n))

fresh-none : (n m : ℕ) → n ≤ m → Fresh n m []
fresh-none n m le = record { up = le; each = λ x h. absurd (false≢true h); differ = refl }

fresh-spread : (b n m : ℕ) (xs : List ℕ) → Fresh n m xs → Spread b [] n m xs
fresh-spread b n m xs f = record { up = f.up; each = λ x h. inr (f.each x h); differ = λ d. f.differ }

call-named : (v : Bool) (w : Counts) (enter : Entering) → Named v w enter → (i : ℕ) (o : Option Fun) (bs : List Atom) (to : Option ℕ) (hs : List Handler) (n : ℕ) → Fresh n (n + call_count w o) (names v (entered_call enter i o bs to hs n))
call-named v w enter h i (Some f) bs to hs n = h.by i f bs to hs n
call-named v w enter h i None bs to hs n = fresh-none n (n + 0) (omega arith)

return_term-named : (v : Bool) (o : Option ℕ) (e : ℕ) (bs : List Atom) → names v (return_term o e bs) ≡ []
return_term-named v (Some l) e bs = refl
return_term-named v None e bs = refl

spread-end : (b n m : ℕ) (xs : List ℕ) → m ≡ n → xs ≡ [] → Spread b [] n m xs
spread-end b n m xs e is = record { up = omega arith; each = λ x h. absurd (false≢true (sym (ap (is_in x) is) ∙ h)); differ = λ d. ap all_different is }

-- which of the two parts of a Fix has the first numbers
fix-order : (one : Bool) (n t l : ℕ) → ((if one then n else n + l) + t ≤ (if one then n + t else n)) ⊎ ((if one then n + t else n) + l ≤ (if one then n else n + l))
fix-order true n t l = inl (omega arith)
fix-order false n t l = inr (omega arith)

fix-low : (one : Bool) (n t : ℕ) → n ≤ (if one then n + t else n)
fix-low true n t = omega arith
fix-low false n t = omega arith

fix-low-other : (one : Bool) (n l : ℕ) → n ≤ (if one then n else n + l)
fix-low-other true n l = omega arith
fix-low-other false n l = omega arith

fix-high : (one : Bool) (n t l : ℕ) → (if one then n + t else n) + l ≤ n + (t + l)
fix-high true n t l = omega arith
fix-high false n t l = omega arith

fix-high-other : (one : Bool) (n t l : ℕ) → (if one then n else n + l) + t ≤ n + (t + l)
fix-high-other true n t l = omega arith
fix-high-other false n t l = omega arith

module _ (v : Bool) (funs : List Fun) (w : Counts) (enter : Entering) (named : Named v w enter) (p : InlineContext) (b s : ℕ) where
  mutual
    pub names-spread : (t : Term) → term_span t ≤ s → (n : ℕ) → b + s ≤ n → Spread b (names v t) n (n + term_count funs w t) (names v (copied funs enter w p b t n))
    names-spread (Let x a t) le n far =
        spread-both b s (pick v (x ∷ [])) (names v t) n n n (n + term_count funs w t) n (n + term_count funs w t) _ _ (λ y i. names-below v (Let x a t) y s le i) far (omega arith) (omega arith) (omega arith) (omega arith) (inl (omega arith))
        (spread-pick v b (x ∷ []) n) (names-spread t (omega arith) n far)
    names-spread (Read m xs a t) le n far =
        spread-both b s (pick v xs) (names v t) n n n (n + term_count funs w t) n (n + term_count funs w t) _ _ (λ y i. names-below v (Read m xs a t) y s le i) far (omega arith) (omega arith) (omega arith) (omega arith) (inl (omega arith))
        (spread-pick v b xs n) (names-spread t (omega arith) n far)
    names-spread (Write m a bs t) le n far = names-spread t le n far
    names-spread (If c a d t u) le n far =
        spread-both b s (names v t) (names v u) n (n + term_count funs w t) (n + term_count funs w t) (n + term_count funs w t + term_count funs w u) n (n + (term_count funs w t + term_count funs w u)) _ _ (λ y i. names-below v (If c a d t u) y s le i) far (omega arith) (omega arith) (omega arith) (omega arith) (inl (omega arith))
        (names-spread t (omega arith) n far) (names-spread u (omega arith) (n + term_count funs w t) (omega arith))
    names-spread (Fix ls t) le n far =
        let low = fix-low (is_one ls) n (term_count funs w t) in
        let low' = fix-low-other (is_one ls) n (labels_count funs w ls) in
        spread-both b s (names v t) (labels_names v ls) (if is_one ls then n else n + labels_count funs w ls) ((if is_one ls then n else n + labels_count funs w ls) + term_count funs w t) (if is_one ls then n + term_count funs w t else n) ((if is_one ls then n + term_count funs w t else n) + labels_count funs w ls)
        n (n + (term_count funs w t + labels_count funs w ls)) _ _ (λ y i. names-below v (Fix ls t) y s le i) far low' low (fix-high-other (is_one ls) n (term_count funs w t) (labels_count funs w ls)) (fix-high (is_one ls) n (term_count funs w t) (labels_count funs w ls)) (fix-order (is_one ls) n (term_count funs w t) (labels_count funs w ls))
        (names-spread t (omega arith) (if is_one ls then n else n + labels_count funs w ls) (omega arith)) (labels-spread ls (omega arith) (if is_one ls then n + term_count funs w t else n) (omega arith))
    names-spread (Call i bs (Some k) hs) le n far = fresh-spread b n _ _ (call-named v w enter named i (slice_get funs i) (moved_atoms b bs) (Some (b + k)) (moved_handlers b hs ++ p.handlers) n)
    names-spread (Call i bs None hs) le n far = spread-end b n (n + 0) _ (omega arith) refl
    names-spread (Return bs) le n far = spread-end b n (n + 0) _ (omega arith) (return_term-named v p.to 0 (moved_atoms b bs))
    names-spread (Throw e bs) le n far = spread-end b n (n + 0) _ (omega arith) (return_term-named v (handler_of e p.handlers) e (moved_atoms b bs))
    names-spread (Jump l bs) le n far = spread-end b n (n + 0) _ (omega arith) refl
    names-spread (Halt e bs) le n far = spread-end b n (n + 0) _ (omega arith) refl

    labels-spread : (ls : Labels) → labels_span ls ≤ s → (n : ℕ) → b + s ≤ n → Spread b (labels_names v ls) n (n + labels_count funs w ls) (labels_names v (copied_labels funs enter w p b ls n))
    labels-spread none le n far = spread-end b n (n + 0) _ (omega arith) refl
    labels-spread (label l xs t ls) le n far =
        spread-both b s ((pick (not v) (l ∷ []) ++ pick v xs) ++ names v t) (labels_names v ls) n (n + term_count funs w t) (n + term_count funs w t) (n + term_count funs w t + labels_count funs w ls) n (n + (term_count funs w t + labels_count funs w ls)) _ _
        (λ y i. all-below v (label l xs t ls) y s le i) far (omega arith) (omega arith) (omega arith) (omega arith) (inl (omega arith))
        (spread-both b s (pick (not v) (l ∷ []) ++ pick v xs) (names v t) n n n (n + term_count funs w t) n (n + term_count funs w t) _ _ (λ y i. all-below v (label l xs t ls) y s le (within-left ((pick (not v) (l ∷ []) ++ pick v xs) ++ names v t) (labels_names v ls) y i)) far (omega arith) (omega arith) (omega arith) (omega arith) (inl (omega arith))
        (spread-both b s (pick (not v) (l ∷ [])) (pick v xs) n n n n n n _ _ (λ y i. all-below v (label l xs t ls) y s le (within-left ((pick (not v) (l ∷ []) ++ pick v xs) ++ names v t) (labels_names v ls) y (within-left (pick (not v) (l ∷ []) ++ pick v xs) (names v t) y i))) far (omega arith) (omega arith) (omega arith) (omega arith) (inl (omega arith))
        (spread-pick (not v) b (l ∷ []) n) (spread-pick v b xs n))
        (names-spread t (omega arith) n far))
        (labels-spread ls (omega arith) (n + term_count funs w t) (omega arith))

-- ---- names of groups

-- names between two numbers, or between two others
pub record Between (lo hi n m : ℕ) (target : List ℕ) : Type 0 where
  pub up : n ≤ m
  pub each : (x : ℕ) → is_in x target ≡ true → ((lo ≤ x) × (x < hi)) ⊎ ((n ≤ x) × (x < m))
  pub differ : all_different target ≡ true

-- a function's names differ
abbrev pub NamesDiffer : Bool → Fun → Type 0
NamesDiffer v g = all_different (pick v g.params ++ names v g.body) ≡ true

pick-params : (v : Bool) (x : ℕ) (g : Fun) → is_in x (pick v g.params ++ names v g.body) ≡ true → x < span g
pick-params v x g h =
    ⊎_elim (λ (i : is_in x (pick v g.params) ≡ true). pick-all v x g.params (span g) (omega arith) i) (λ (i : is_in x (names v g.body) ≡ true). names-below v g.body x (span g) (omega arith) i) (in-parts x (pick v g.params) (names v g.body) h)

function-fresh : (v : Bool) (funs : List Fun) (w : Counts) (enter : Entering) → Named v w enter → (p : InlineContext) (g : Fun) (n : ℕ) → NamesDiffer v g → Fresh n (n + copy_count funs w g) (pick v (moved n g.params) ++ names v (copied funs enter w p n g.body (n + span g)))
function-fresh v funs w enter named p g n d =
    let body = names-spread v funs w enter named p n (span g) g.body (omega arith) (n + span g) (omega arith) in
    let whole = spread-both n (span g) (pick v g.params) (names v g.body) (n + span g) (n + span g) (n + span g) (n + span g + term_count funs w g.body) (n + span g) (n + copy_count funs w g) _ _
    (λ y i. pick-params v y g i) (omega arith) (omega arith) (omega arith) (omega arith) (omega arith) (inl (omega arith)) (spread-pick v n g.params (n + span g)) body in
    record {
      up = omega arith;
      each = λ x i.
          ⊎_elim
          (λ (c : Came n x (pick v g.params ++ names v g.body)). let e = c.is in let lt : c.from < span g = pick-params v c.from g c.there in (omega arith, omega arith))
          (λ (q : (n + span g ≤ x) × (x < n + copy_count funs w g)). let q0 = q.0 in let q1 = q.1 in (omega arith, q1))
          (whole.each x i);
      differ = whole.differ d;
    }

between-none : (lo hi n : ℕ) → Between lo hi n n []
between-none lo hi n = record { up = omega arith; each = λ x h. absurd (false≢true h); differ = refl }

-- one more label in front
label-between : (v : Bool) (l hi n m k : ℕ) (xs : List ℕ) (body rest : List ℕ) → l < hi → hi ≤ n → Fresh n m (pick v xs ++ body) → Between (suc l) hi m k rest → Between l hi n k (((pick (not v) (l ∷ []) ++ pick v xs) ++ body) ++ rest)
label-between true l hi n m k xs body rest lt le f r = record {
  up = let a = f.up in let b = r.up in omega arith;
  each = λ x i.
      let a = f.up in
      let b = r.up in
      ⊎_elim
      (λ (j : is_in x (xs ++ body) ≡ true). let q = f.each x j in let q0 = q.0 in let q1 = q.1 in inr (q0, omega arith))
      (λ (j : is_in x rest ≡ true). ⊎_elim (λ (q : (suc l ≤ x) × (x < hi)). let q0 = q.0 in inl (omega arith, q.1)) (λ (q : (m ≤ x) × (x < k)). let q0 = q.0 in inr (omega arith, q.1)) (r.each x j))
      (in-parts x (xs ++ body) rest i);
  differ = differ-both (xs ++ body) rest f.differ r.differ
      (λ x i j.
      let q = f.each x i in
      let q0 = q.0 in
      let q1 = q.1 in
      ⊎_elim (λ (o : (suc l ≤ x) × (x < hi)). let o1 = o.1 in absurd (omega arith)) (λ (o : (m ≤ x) × (x < k)). let o0 = o.0 in absurd (omega arith)) (r.each x j));
}
label-between false l hi n m k xs body rest lt le f r = record {
  up = let a = f.up in let b = r.up in omega arith;
  each = λ x i.
      let a = f.up in
      let b = r.up in
      ⊎_elim
      (λ (j : nat_eq x l ≡ true). let e : x ≡ l = eqb-true x l j in inl (omega arith, omega arith))
      (λ (j : is_in x (body ++ rest) ≡ true).
      ⊎_elim
      (λ (t : is_in x body ≡ true). let q = f.each x t in let q0 = q.0 in let q1 = q.1 in inr (q0, omega arith))
      (λ (t : is_in x rest ≡ true). ⊎_elim (λ (q : (suc l ≤ x) × (x < hi)). let q0 = q.0 in inl (omega arith, q.1)) (λ (q : (m ≤ x) × (x < k)). let q0 = q.0 in inr (omega arith, q.1)) (r.each x t))
      (in-parts x body rest j))
      (or_cases (nat_eq x l) (is_in x (body ++ rest)) i);
  differ = and_from (not (is_in l (body ++ rest))) (all_different (body ++ rest))
      (not-from (is_in l (body ++ rest)) (λ i.
      ⊎_elim
      (λ (t : is_in l body ≡ true). let q0 = (f.each l t).0 in absurd (omega arith))
      (λ (t : is_in l rest ≡ true). ⊎_elim (λ (q : (suc l ≤ l) × (l < hi)). let q0 = q.0 in absurd (omega arith)) (λ (q : (m ≤ l) × (l < k)). let q0 = q.0 in let a = f.up in absurd (omega arith)) (r.each l t))
      (in-parts l body rest i)))
      (differ-both body rest f.differ r.differ
      (λ x i j.
      let q = f.each x i in
      let q0 = q.0 in
      let q1 = q.1 in
      ⊎_elim (λ (o : (suc l ≤ x) × (x < hi)). let o1 = o.1 in absurd (omega arith)) (λ (o : (m ≤ x) × (x < k)). let o0 = o.0 in absurd (omega arith)) (r.each x j)));
}

between-less : (lo lo' hi n k k' : ℕ) (xs : List ℕ) → lo' ≤ lo → k ≤ k' → Between lo hi n k xs → Between lo' hi n k' xs
between-less lo lo' hi n k k' xs le lk b = record {
  up = let a = b.up in omega arith;
  each = λ x i. ⊎_elim (λ (q : (lo ≤ x) × (x < hi)). let q0 = q.0 in inl (omega arith, q.1)) (λ (q : (n ≤ x) × (x < k)). let q1 = q.1 in inr (q.0, omega arith)) (b.each x i);
  differ = b.differ;
}

between-either : (v : Bool) (t : Bool) (lo hi n c r : ℕ) (ls ks : Labels) → Between lo hi n (n + c + r) (labels_names v ls) → Between lo hi n (n + r) (labels_names v ks) → Between lo hi n (n + ((if t then c else 0) + r)) (labels_names v (if t then ls else ks))
between-either v true lo hi n c r ls ks h g = between-less lo lo hi n (n + c + r) (n + (c + r)) (labels_names v ls) (omega arith) (omega arith) h
between-either v false lo hi n c r ls ks h g = between-less lo lo hi n (n + r) (n + (0 + r)) (labels_names v ks) (omega arith) (omega arith) g

-- all functions of a list have different names
abbrev pub AllDiffer : Bool → List Fun → Type 0
AllDiffer v [] = Unit {0}
AllDiffer v (g ∷ gs) = NamesDiffer v g × AllDiffer v gs

copies-between : (v : Bool) (funs : List Fun) (w : Counts) (enter : Entering) → Named v w enter → (f : Fun) (p : InlineContext) (j : ℕ) (gs : List Fun) (n : ℕ) → AllDiffer v gs → p.first + j + length gs ≤ n
    → Between (p.first + j) (p.first + j + length gs) n (n + copies_count funs w f gs) (labels_names v (copies funs enter w f p j gs n))
copies-between v funs w enter named f p j [] n d le = between-less _ _ _ n n (n + 0) [] (omega arith) (omega arith) (between-none (p.first + j) (p.first + j + 0) n)
copies-between v funs w enter named f p j (g ∷ gs) n d le =
    let hi : p.first + suc j + length gs ≡ p.first + j + suc (length gs) = omega arith in
    let first : p.first + suc j ≡ suc (p.first + j) = omega arith in
    between-either v (is_copied f g) (p.first + j) (p.first + j + suc (length gs)) n (copy_count funs w g) (copies_count funs w f gs) _ (copies funs enter w f p (suc j) gs n)
    (label-between v (p.first + j) (p.first + j + suc (length gs)) n (n + copy_count funs w g) (n + copy_count funs w g + copies_count funs w f gs) (moved n g.params) (names v (copied funs enter w p n g.body (n + span g))) (labels_names v (copies funs enter w f p (suc j) gs (n + copy_count funs w g)))
    (omega arith) le (function-fresh v funs w enter named p g n d.0)
    (subst (λ x. Between x (p.first + j + suc (length gs)) (n + copy_count funs w g) (n + copy_count funs w g + copies_count funs w f gs) (labels_names v (copies funs enter w f p (suc j) gs (n + copy_count funs w g)))) first
    (subst (λ x. Between (p.first + suc j) x (n + copy_count funs w g) (n + copy_count funs w g + copies_count funs w f gs) (labels_names v (copies funs enter w f p (suc j) gs (n + copy_count funs w g)))) hi
    (copies-between v funs w enter named f p (suc j) gs (n + copy_count funs w g) d.1 (omega arith)))))
    (between-less (p.first + suc j) (p.first + j) (p.first + j + suc (length gs)) n (n + copies_count funs w f gs) (n + copies_count funs w f gs) (labels_names v (copies funs enter w f p (suc j) gs n)) (omega arith) (omega arith)
    (subst (λ x. Between (p.first + suc j) x n (n + copies_count funs w f gs) (labels_names v (copies funs enter w f p (suc j) gs n))) hi
    (copies-between v funs w enter named f p (suc j) gs n d.1 (omega arith))))

pub entered-named : (v : Bool) (funs : List Fun) → AllDiffer v funs → (w : Counts) (enter : Entering) → Named v w enter → (i : ℕ) (f : Fun) (bs : List Atom) (to : Option ℕ) (hs : List Handler) (n : ℕ) → Fresh n (n + group_count funs w f) (names v (entered funs enter w i f bs to hs n))
entered-named v funs d w enter named i f bs to hs n =
    let h = copies-between v funs w enter named f (record { first = n; to = to; handlers = hs }) 0 funs (n + length funs) d (omega arith) in
    record {
      up = omega arith;
      each = λ x i. ⊎_elim (λ (q : (n + 0 ≤ x) × (x < n + 0 + length funs)). let q0 = q.0 in let q1 = q.1 in (omega arith, omega arith)) (λ (q : (n + length funs ≤ x) × (x < n + length funs + copies_count funs w f funs)). let q0 = q.0 in let q1 = q.1 in (omega arith, omega arith)) (h.each x i);
      differ = h.differ;
    }

fresh-if : (v : Bool) (t : Bool) (n c d : ℕ) (x y : Term) → Fresh n (n + c) (names v x) → Fresh n (n + d) (names v y) → Fresh n (n + (if t then c else d)) (names v (if t then x else y))
fresh-if v true n c d x y h g = h
fresh-if v false n c d x y h g = g

pub entering-named : (v : Bool) (funs : List Fun) → AllDiffer v funs → (own : ℕ) → Named v (counts funs own) (entering funs own)
entering-named v funs d zero = record { by = λ i f bs to hs n. fresh-none n (n + 0) (omega arith) }
entering-named v funs d (suc own) = record {
  by = λ i f bs to hs n.
      fresh-if v (f.group == own) n (group_count funs (counts funs own) f) (counts funs own f) (entered funs (entering funs own) (counts funs own) i f bs to hs n) (entering funs own i f bs to hs n)
      (entered-named v funs d (counts funs own) (entering funs own) (entering-named v funs d own) i f bs to hs n) ((entering-named v funs d own).by i f bs to hs n);
}
