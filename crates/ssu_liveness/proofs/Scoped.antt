-- The rows of a tree in single-use form have the live values.
use Rattle.std.proofs.Common.{◌≡◌, ℕ, Bool, true, false, not, nat_eq, if◌then◌else◌, ◌||◌, ◌&&◌, ◌⊎◌, inl, inr, ⊎_elim, Option, Some, None, List, [], ◌∷◌, ◌++◌, length, map, filter, unwrap_or, refl, sym, ap, ◌∙◌, arith}
use Rattle.std.proofs.lemmas.Bool.{and_parts, and_from, or_cases, or_parts, or_left, or_right, or_from, not-true, not_from_false, false≢true, eq-eqb, false_from_ne_true}
use Rattle.nv_base.specs.Sets.{is_in, all_different, without}
use Rattle.nv_base.proofs.Sets.{in-append, in-without, different-below, different-all, same-number, other-number}
use Rattle.nv_base.specs.declared.term.Cmp.{Cmp}
use Rattle.ssu_ir.specs.Tree.{Step, Lit, Una, Bin, Clone, Read, Write, Tree, Do, If, End, step_values, step_clones, step_uses, last_uses}
use Rattle.ssu_ir.specs.Points.{Names, names_after}
use Rattle.ssu_ir.specs.Single.{defined, step_names, all_known, is_scoped, fresh_after, clones_fresh, clones_early}
use Rattle.ssu_ir.proofs.Liveness.{in-left, in-right}
use Rattle.ssu_liveness.specs.inner.Live.{first_of, step_source, source_in, value_by, add_all, root_row}

-- ---- lists

pub in-itself : (x : ℕ) → nat_eq x x ≡ true
in-itself x = eq-eqb x x refl

pub in-last : (x : ℕ) (row : List ℕ) (y : ℕ) → is_in x (row ++ y ∷ []) ≡ (is_in x row || nat_eq x y)
in-last x row y = in-append x row (y ∷ []) ∙ ap (λ b. is_in x row || b) (or-false (nat_eq x y))
  where
    or-false : (b : Bool) → (b || false) ≡ b
    or-false true = refl
    or-false false = refl

either : (a b : Bool) → a ≡ true → (b || a) ≡ true
either a true e = refl
either a false e = e

-- a value is in a row that was added to, where it was in it or is added
pub in-added : (x : ℕ) (us row : List ℕ) → is_in x (add_all us row) ≡ true → (is_in x us ≡ true) ⊎ (is_in x row ≡ true)
in-added x [] row h = inr h
in-added x (u ∷ us) row h = ⊎_elim (λ (a : is_in x us ≡ true). inl (or_right (nat_eq x u) (is_in x us) a)) (λ (b : is_in x (if is_in u row then row else row ++ u ∷ []) ≡ true). one (is_in u row) b)
    (in-added x us (if is_in u row then row else row ++ u ∷ []) h)
  where
    one : (b : Bool) → is_in x (if b then row else row ++ u ∷ []) ≡ true → (is_in x (u ∷ us) ≡ true) ⊎ (is_in x row ≡ true)
    one true e = inr e
    one false e = ⊎_elim (λ (a : is_in x row ≡ true). inr a) (λ (b : nat_eq x u ≡ true). inl (or_left (nat_eq x u) (is_in x us) b)) (or_cases (is_in x row) (nat_eq x u) (sym (in-last x row u) ∙ e))

grows-by : (x u : ℕ) (row : List ℕ) (b : Bool) → is_in x row ≡ true → is_in x (if b then row else row ++ u ∷ []) ≡ true
grows-by x u row true h = h
grows-by x u row false h = in-last x row u ∙ or_left (is_in x row) (nat_eq x u) h

pub stays-added : (x : ℕ) (us row : List ℕ) → is_in x row ≡ true → is_in x (add_all us row) ≡ true
stays-added x [] row h = h
stays-added x (u ∷ us) row h = stays-added x us (if is_in u row then row else row ++ u ∷ []) (grows-by x u row (is_in u row) h)

comes-by : (x u : ℕ) (row : List ℕ) (b : Bool) → is_in u row ≡ b → nat_eq x u ≡ true → is_in x (if b then row else row ++ u ∷ []) ≡ true
comes-by x u row true e h = ap (λ y. is_in y row) (same-number x u h) ∙ e
comes-by x u row false e h = in-last x row u ∙ or_right (is_in x row) (nat_eq x u) h

pub comes-added : (x : ℕ) (us row : List ℕ) → is_in x us ≡ true → is_in x (add_all us row) ≡ true
comes-added x [] row h = absurd (false≢true h)
comes-added x (u ∷ us) row h =
    ⊎_elim
    (λ (a : nat_eq x u ≡ true). stays-added x us (if is_in u row then row else row ++ u ∷ []) (comes-by x u row (is_in u row) refl a))
    (λ (b : is_in x us ≡ true). comes-added x us (if is_in u row then row else row ++ u ∷ []) b)
    (or_cases (nat_eq x u) (is_in x us) h)

different-last : (row : List ℕ) (u : ℕ) → all_different row ≡ true → is_in u row ≡ false → all_different (row ++ u ∷ []) ≡ true
different-last [] u h e = refl
different-last (y ∷ row) u h e =
    let p = and_parts (not (is_in y row)) (all_different row) h in
    let q = or_parts (nat_eq u y) (is_in u row) e in
    and_from (not (is_in y (row ++ u ∷ []))) (all_different (row ++ u ∷ []))
    (not_from_false (is_in y (row ++ u ∷ [])) (in-last y row u ∙ or_from (is_in y row) (nat_eq y u) (not-true (is_in y row) p.0) (other-number u y q.0)))
    (different-last row u p.1 q.1)

once-added : (row : List ℕ) (u : ℕ) (b : Bool) → is_in u row ≡ b → all_different row ≡ true → all_different (if b then row else row ++ u ∷ []) ≡ true
once-added row u true e h = h
once-added row u false e h = different-last row u h e

pub different-added : (us row : List ℕ) → all_different row ≡ true → all_different (add_all us row) ≡ true
different-added [] row h = h
different-added (u ∷ us) row h = different-added us (if is_in u row then row else row ++ u ∷ []) (once-added row u (is_in u row) refl h)

out-of-without : (y : ℕ) (a gone : List ℕ) → is_in y a ≡ false → is_in y (without a gone) ≡ false
out-of-without y a gone e = in-without y a gone ∙ ap (λ b. b && not (is_in y gone)) e

without-if : (b : Bool) (y : ℕ) (w : List ℕ) → is_in y w ≡ false → all_different w ≡ true → all_different (if b then w else y ∷ w) ≡ true
without-if true y w e h = h
without-if false y w e h = and_from (not (is_in y w)) (all_different w) (not_from_false (is_in y w) e) h

pub different-without : (a gone : List ℕ) → all_different a ≡ true → all_different (without a gone) ≡ true
different-without [] gone h = refl
different-without (y ∷ a) gone h =
    let p = and_parts (not (is_in y a)) (all_different a) h in
    without-if (is_in y gone) y (without a gone) (out-of-without y a gone (not-true (is_in y a) p.0)) (different-without a gone p.1)

-- each row has each value once
pub different-row : (of : Names) (t : Tree) → all_different (root_row of t) ≡ true
different-row of (Do s t) = different-added (map of (step_uses s)) (without (root_row of t) (step_values s)) (different-without (root_row of t) (step_values s) (different-row of t))
different-row of (If c x y t u) = different-added (of x ∷ of y ∷ []) (add_all (root_row of u) (root_row of t)) (different-added (root_row of u) (root_row of t) (different-row of t))
different-row of (End l) = different-added (map of (last_uses l)) [] refl

-- ---- filters

and-off : (a b : Bool) → b ≡ false → (a && b) ≡ b
and-off true b g = refl
and-off false b g = sym g

filter-head : (p : ℕ → Bool) (x y : ℕ) (xs : List ℕ) → is_in x (filter p xs) ≡ (is_in x xs && p x) → (b : Bool) → p y ≡ b → (c : Bool) → nat_eq x y ≡ c → is_in x (if b then y ∷ filter p xs else filter p xs) ≡ ((c || is_in x xs) && p x)
filter-head p x y xs h true e true f = ap (λ d. d || is_in x (filter p xs)) f ∙ sym (ap p (same-number x y f) ∙ e)
filter-head p x y xs h true e false f = ap (λ d. d || is_in x (filter p xs)) f ∙ h
filter-head p x y xs h false e true f = h ∙ and-off (is_in x xs) (p x) (ap p (same-number x y f) ∙ e)
filter-head p x y xs h false e false f = h

pub in-filter : (p : ℕ → Bool) (x : ℕ) (xs : List ℕ) → is_in x (filter p xs) ≡ (is_in x xs && p x)
in-filter p x [] = refl
in-filter p x (y ∷ xs) = filter-head p x y xs (in-filter p x xs) (p y) refl (nat_eq x y) refl

filter-once : (p : ℕ → Bool) (b : Bool) (y : ℕ) (xs : List ℕ) → is_in y xs ≡ false → all_different (filter p xs) ≡ true → all_different (if b then y ∷ filter p xs else filter p xs) ≡ true
filter-once p true y xs e h = and_from (not (is_in y (filter p xs))) (all_different (filter p xs)) (not_from_false (is_in y (filter p xs)) (in-filter p y xs ∙ ap (λ c. c && p y) e)) h
filter-once p false y xs e h = h

pub different-filter : (p : ℕ → Bool) (xs : List ℕ) → all_different xs ≡ true → all_different (filter p xs) ≡ true
different-filter p [] h = refl
different-filter p (y ∷ xs) h =
    let w = and_parts (not (is_in y xs)) (all_different xs) h in
    filter-once p (p y) y xs (not-true (is_in y xs) w.0) (different-filter p xs w.1)

-- lists of the same values, each once, are as long
pub same-length : (a b : List ℕ) → all_different a ≡ true → all_different b ≡ true → ((x : ℕ) → is_in x a ≡ is_in x b) → length a ≡ length b
same-length a b h g e =
    let f = different-below a b (λ x w. sym (e x) ∙ w) in
    let r = different-below b a (λ x w. e x ∙ w) in
    let p = different-all a h in
    let q = different-all b g in
    omega arith

-- ---- names that a place may use

pub all-in : (known xs : List ℕ) (y : ℕ) → all_known known xs ≡ true → is_in y xs ≡ true → is_in y known ≡ true
all-in known [] y h e = absurd (false≢true e)
all-in known (x ∷ xs) y h e =
    let p = and_parts (is_in x known) (all_known known xs) h in
    ⊎_elim (λ (a : nat_eq y x ≡ true). ap (λ z. is_in z known) (same-number y x a) ∙ p.0) (λ (b : is_in y xs ≡ true). all-in known xs y p.1 b) (or_cases (nat_eq y x) (is_in y xs) e)

-- what is in the values of names is the value of one of them
pub in-map : (of : Names) (xs : List ℕ) (x : ℕ) → is_in x (map of xs) ≡ true → (y : ℕ) × (is_in y xs ≡ true) × (x ≡ of y)
in-map of [] x e = absurd (false≢true e)
in-map of (y ∷ xs) x e = ⊎_elim
    (λ (a : nat_eq x (of y) ≡ true). (y, or_left (nat_eq y y) (is_in y xs) (in-itself y), same-number x (of y) a))
    (λ (b : is_in x (map of xs) ≡ true). let w = in-map of xs x b in (w.0, or_right (nat_eq w.0 y) (is_in w.0 xs) w.1, w.2))
    (or_cases (nat_eq x (of y)) (is_in x (map of xs)) e)

pub map-same : (f g : Names) (xs : List ℕ) → ((y : ℕ) → is_in y xs ≡ true → f y ≡ g y) → map f xs ≡ map g xs
map-same f g [] h = refl
map-same f g (y ∷ xs) h = ap (λ z. z ∷ map f xs) (h y (or_left (nat_eq y y) (is_in y xs) (in-itself y))) ∙ ap (λ l. g y ∷ l) (map-same f g xs (λ z e. h z (or_right (nat_eq z y) (is_in z xs) e)))

-- what a place of a tree may rest on: `of` is the value of each name that is known there, `value` that by the whole
pub record Scope (of value : Names) (above known fresh : List ℕ) (t : Tree) : Type 0 where
  pub scoped : is_scoped known t ≡ true
  pub early : clones_early fresh t ≡ true
  pub once : all_different (defined t) ≡ true
  pub distinct : all_different above ≡ true
  pub apart : (y : ℕ) → is_in y known ≡ true → is_in y (defined t) ≡ true → ⊥
  pub values : (y : ℕ) → is_in y above ≡ true → is_in y known ≡ true
  pub placed : (y : ℕ) → is_in y known ≡ true → is_in (of y) above ≡ true
  pub same : (y : ℕ) → is_in y known ≡ true → of y ≡ value y
  pub plain : (y : ℕ) → is_in y fresh ≡ true → value y ≡ y
  pub fresh_known : (y : ℕ) → is_in y fresh ≡ true → is_in y known ≡ true
  pub later : (y : ℕ) → is_in y (defined t) ≡ true → of y ≡ y
  pub sourced : (y : ℕ) → is_in y (defined t) ≡ true → value y ≡ value_by (source_in t) y

-- ---- lists of different numbers in parts

pub split-different : (a b : List ℕ) → all_different (a ++ b) ≡ true → (all_different a ≡ true) × (all_different b ≡ true) × ((y : ℕ) → is_in y a ≡ true → is_in y b ≡ true → ⊥)
split-different [] b h = (refl, h, λ y e f. false≢true e)
split-different (x ∷ a) b h =
    let p = and_parts (not (is_in x (a ++ b))) (all_different (a ++ b)) h in
    let out = or_parts (is_in x a) (is_in x b) (sym (in-append x a b) ∙ not-true (is_in x (a ++ b)) p.0) in
    let w = split-different a b p.1 in (
      and_from (not (is_in x a)) (all_different a) (not_from_false (is_in x a) out.0) w.0,
      w.1,
      λ y e f. ⊎_elim (λ (q : nat_eq y x ≡ true). false≢true (sym out.1 ∙ (ap (λ z. is_in z b) (sym (same-number y x q)) ∙ f))) (λ (q : is_in y a ≡ true). w.2 y q f) (or_cases (nat_eq y x) (is_in y a) e),
    )

pub join-different : (a b : List ℕ) → all_different a ≡ true → all_different b ≡ true → ((y : ℕ) → is_in y a ≡ true → is_in y b ≡ true → ⊥) → all_different (a ++ b) ≡ true
join-different [] b h g n = g
join-different (x ∷ a) b h g n =
    let p = and_parts (not (is_in x a)) (all_different a) h in
    let out : is_in x (a ++ b) ≡ false = in-append x a b ∙ or_from (is_in x a) (is_in x b) (not-true (is_in x a) p.0) (false_from_ne_true (is_in x b) (λ e. n x (or_left (nat_eq x x) (is_in x a) (in-itself x)) e)) in
    and_from (not (is_in x (a ++ b))) (all_different (a ++ b)) (not_from_false (is_in x (a ++ b)) out)
    (join-different a b p.1 g (λ y e f. n y (or_right (nat_eq y x) (is_in y a) e) f))

pub in-either : (y : ℕ) (a b : List ℕ) → is_in y (a ++ b) ≡ true → (is_in y a ≡ true) ⊎ (is_in y b ≡ true)
in-either y a b e = or_cases (is_in y a) (is_in y b) (sym (in-append y a b) ∙ e)

-- a name that a tree doesn't define is no clone by it
pub no-source : (t : Tree) (z : ℕ) → is_in z (defined t) ≡ false → source_in t z ≡ None
no-source (Do s t) z e =
    let p = or_parts (is_in z (step_values s)) (is_in z (step_clones s ++ defined t)) (sym (in-append z (step_values s) (step_clones s ++ defined t)) ∙ e) in
    let q = or_parts (is_in z (step_clones s)) (is_in z (defined t)) (sym (in-append z (step_clones s) (defined t)) ∙ p.1) in
    ap (λ o. first_of o (source_in t z)) (none-by s q.0) ∙ no-source t z q.1
  where
    none-by : (s : Step) → is_in z (step_clones s) ≡ false → step_source s z ≡ None
    none-by (Lit x v) f = refl
    none-by (Una x op y) f = refl
    none-by (Bin x op y w) f = refl
    none-by (Clone xs y) f = ap (λ b. if b then Some y else None) f
    none-by (Read m xs y) f = refl
    none-by (Write m y xs) f = refl
no-source (If c x y t u) z e =
    let p = or_parts (is_in z (defined t)) (is_in z (defined u)) (sym (in-append z (defined t) (defined u)) ∙ e) in
    ap (λ o. first_of o (source_in u z)) (no-source t z p.0) ∙ no-source u z p.1
no-source (End l) z e = refl

-- ---- after a step

step-none : (s : Step) (z : ℕ) → is_in z (step_clones s) ≡ false → step_source s z ≡ None
step-none (Lit x v) z f = refl
step-none (Una x op y) z f = refl
step-none (Bin x op y w) z f = refl
step-none (Clone xs y) z f = ap (λ b. if b then Some y else None) f
step-none (Read m xs y) z f = refl
step-none (Write m y xs) z f = refl

-- names that a step doesn't clone stay as they are
after-same : (of : Names) (s : Step) (z : ℕ) → is_in z (step_clones s) ≡ false → names_after of s z ≡ of z
after-same of (Lit x v) z f = refl
after-same of (Una x op y) z f = refl
after-same of (Bin x op y w) z f = refl
after-same of (Clone xs y) z f = ap (λ b. if b then of y else of z) f
after-same of (Read m xs y) z f = refl
after-same of (Write m y xs) z f = refl

-- a clone is a copy of a value that is known and fresh
record ClonedAt (of value : Names) (fresh : List ℕ) (s : Step) (t : Tree) (z : ℕ) : Type 0 where
  from : ℕ
  fresh_ : is_in from fresh ≡ true
  after : names_after of s z ≡ of from
  source : source_in (Do s t) z ≡ Some from

cloned-at : (of value : Names) (fresh : List ℕ) (s : Step) (t : Tree) (z : ℕ) → clones_fresh fresh s ≡ true → is_in z (step_clones s) ≡ true → ClonedAt of value fresh s t z
cloned-at of value fresh (Lit x v) t z h e = absurd (false≢true e)
cloned-at of value fresh (Una x op y) t z h e = absurd (false≢true e)
cloned-at of value fresh (Bin x op y w) t z h e = absurd (false≢true e)
cloned-at of value fresh (Clone xs y) t z h e = record { from = y; fresh_ = h; after = ap (λ b. if b then of y else of z) e; source = ap (λ b. first_of (if b then Some y else None) (source_in t z)) e }
cloned-at of value fresh (Read m xs y) t z h e = absurd (false≢true e)
cloned-at of value fresh (Write m y xs) t z h e = absurd (false≢true e)

-- values that come fresh after a step are its own, or were fresh before
fresh-from : (fresh : List ℕ) (s : Step) (y : ℕ) → is_in y (fresh_after fresh s) ≡ true → (is_in y (step_values s) ≡ true) ⊎ (is_in y fresh ≡ true)
fresh-from fresh (Lit x v) y e = inl e
fresh-from fresh (Una x op z) y e = inl e
fresh-from fresh (Bin x op z w) y e = inl e
fresh-from fresh (Clone xs z) y e = inr e
fresh-from fresh (Read m xs z) y e = inl e
fresh-from fresh (Write m z xs) y e = absurd (false≢true e)

-- a step that has values has no clones
no-clones : (s : Step) (y : ℕ) → is_in y (step_values s) ≡ true → is_in y (step_clones s) ≡ false
no-clones (Lit x v) y e = refl
no-clones (Una x op z) y e = refl
no-clones (Bin x op z w) y e = refl
no-clones (Clone xs z) y e = absurd (false≢true e)
no-clones (Read m xs z) y e = refl
no-clones (Write m z xs) y e = refl

pub scope-do : (of value : Names) (above known fresh : List ℕ) (s : Step) (t : Tree) → Scope of value above known fresh (Do s t) → Scope (names_after of s) value (above ++ step_values s) (known ++ (step_values s ++ step_clones s)) (fresh_after fresh s) t
scope-do of value above known fresh s t c =
    let vs = step_values s in
    let cs = step_clones s in
    let sc = and_parts (all_known known (step_names s)) (is_scoped (known ++ (vs ++ cs)) t) c.scoped in
    let er = and_parts (clones_fresh fresh s) (clones_early (fresh_after fresh s) t) c.early in
    let d = split-different vs (cs ++ defined t) c.once in
    let d2 = split-different cs (defined t) d.1 in
    let in-all : (y : ℕ) → is_in y vs ≡ true → is_in y (defined (Do s t)) ≡ true = λ y e. in-left y vs (cs ++ defined t) e in
    let clone-in : (y : ℕ) → is_in y cs ≡ true → is_in y (defined (Do s t)) ≡ true = λ y e. in-right y vs (cs ++ defined t) (in-left y cs (defined t) e) in
    let rest-in : (y : ℕ) → is_in y (defined t) ≡ true → is_in y (defined (Do s t)) ≡ true = λ y e. in-right y vs (cs ++ defined t) (in-right y cs (defined t) e) in
    let known-out : (y : ℕ) → is_in y known ≡ true → is_in y cs ≡ false = λ y e. false_from_ne_true (is_in y cs) (λ f. c.apart y e (clone-in y f)) in
    let rest-out : (y : ℕ) → is_in y (defined t) ≡ true → is_in y cs ≡ false = λ y e. false_from_ne_true (is_in y cs) (λ f. d2.2 y f e) in
    let value-plain : (y : ℕ) → is_in y vs ≡ true → value y ≡ y = λ y e.
    c.sourced y (in-all y e)
    ∙ ap (λ o. unwrap_or (first_of o (source_in t y)) y) (step-none s y (no-clones s y e))
    ∙ ap (λ o. unwrap_or o y) (no-source t y (false_from_ne_true (is_in y (defined t)) (λ f. d.2 y e (in-right y cs (defined t) f)))) in
    record {
      scoped = sc.1;
      early = er.1;
      once = d2.1;
      distinct = join-different above vs c.distinct d.0 (λ y e f. c.apart y (c.values y e) (in-all y f));
      apart = λ y e f. ⊎_elim
          (λ (k : is_in y known ≡ true). c.apart y k (rest-in y f))
          (λ (k : is_in y (vs ++ cs) ≡ true). ⊎_elim (λ (a : is_in y vs ≡ true). d.2 y a (in-right y cs (defined t) f)) (λ (b : is_in y cs ≡ true). d2.2 y b f) (in-either y vs cs k))
          (in-either y known (vs ++ cs) e);
      values = λ y e. ⊎_elim
          (λ (k : is_in y above ≡ true). in-left y known (vs ++ cs) (c.values y k))
          (λ (k : is_in y vs ≡ true). in-right y known (vs ++ cs) (in-left y vs cs k))
          (in-either y above vs e);
      placed = λ y e. ⊎_elim
          (λ (k : is_in y known ≡ true). ap (λ z. is_in z (above ++ vs)) (after-same of s y (known-out y k)) ∙ in-left (of y) above vs (c.placed y k))
          (λ (k : is_in y (vs ++ cs) ≡ true). ⊎_elim
          (λ (a : is_in y vs ≡ true). ap (λ z. is_in z (above ++ vs)) (after-same of s y (no-clones s y a) ∙ c.later y (in-all y a)) ∙ in-right y above vs a)
          (λ (b : is_in y cs ≡ true).
          let w = cloned-at of value fresh s t y er.0 b in
          ap (λ z. is_in z (above ++ vs)) w.after ∙ in-left (of w.from) above vs (c.placed w.from (c.fresh_known w.from w.fresh_)))
          (in-either y vs cs k))
          (in-either y known (vs ++ cs) e);
      same = λ y e. ⊎_elim
          (λ (k : is_in y known ≡ true). after-same of s y (known-out y k) ∙ c.same y k)
          (λ (k : is_in y (vs ++ cs) ≡ true). ⊎_elim
          (λ (a : is_in y vs ≡ true). after-same of s y (no-clones s y a) ∙ c.later y (in-all y a) ∙ sym (value-plain y a))
          (λ (b : is_in y cs ≡ true).
          let w = cloned-at of value fresh s t y er.0 b in
          w.after ∙ c.same w.from (c.fresh_known w.from w.fresh_) ∙ c.plain w.from w.fresh_ ∙ sym (c.sourced y (clone-in y b) ∙ ap (λ o. unwrap_or o y) w.source))
          (in-either y vs cs k))
          (in-either y known (vs ++ cs) e);
      plain = λ y e. ⊎_elim (λ (a : is_in y vs ≡ true). value-plain y a) (λ (b : is_in y fresh ≡ true). c.plain y b) (fresh-from fresh s y e);
      fresh_known = λ y e. ⊎_elim
          (λ (a : is_in y vs ≡ true). in-right y known (vs ++ cs) (in-left y vs cs a))
          (λ (b : is_in y fresh ≡ true). in-left y known (vs ++ cs) (c.fresh_known y b))
          (fresh-from fresh s y e);
      later = λ y e. after-same of s y (rest-out y e) ∙ c.later y (rest-in y e);
      sourced = λ y e. c.sourced y (rest-in y e) ∙ ap (λ o. unwrap_or (first_of o (source_in t y)) y) (step-none s y (rest-out y e));
    }

-- ---- in the arms

pub first_of-none : (o : Option ℕ) → first_of o None ≡ o
first_of-none (Some x) = refl
first_of-none None = refl

pub scope-first : (of value : Names) (above known fresh : List ℕ) (c : Cmp) (x y : ℕ) (t u : Tree) → Scope of value above known fresh (If c x y t u) → Scope of value above known [] t
scope-first of value above known fresh c x y t u k =
    let sc = and_parts (all_known known (x ∷ y ∷ [])) (is_scoped known t && is_scoped known u) k.scoped in
    let sd = and_parts (is_scoped known t) (is_scoped known u) sc.1 in
    let er = and_parts (clones_early [] t) (clones_early [] u) k.early in
    let d = split-different (defined t) (defined u) k.once in
    record {
      scoped = sd.0;
      early = er.0;
      once = d.0;
      distinct = k.distinct;
      apart = λ z e f. k.apart z e (in-left z (defined t) (defined u) f);
      values = k.values;
      placed = k.placed;
      same = k.same;
      plain = λ z e. absurd (false≢true e);
      fresh_known = λ z e. absurd (false≢true e);
      later = λ z e. k.later z (in-left z (defined t) (defined u) e);
      sourced = λ z e.
          k.sourced z (in-left z (defined t) (defined u) e)
          ∙ ap (λ o. unwrap_or (first_of (source_in t z) o) z) (no-source u z (false_from_ne_true (is_in z (defined u)) (λ f. d.2 z e f)))
          ∙ ap (λ o. unwrap_or o z) (first_of-none (source_in t z));
    }

pub scope-second : (of value : Names) (above known fresh : List ℕ) (c : Cmp) (x y : ℕ) (t u : Tree) → Scope of value above known fresh (If c x y t u) → Scope of value above known [] u
scope-second of value above known fresh c x y t u k =
    let sc = and_parts (all_known known (x ∷ y ∷ [])) (is_scoped known t && is_scoped known u) k.scoped in
    let sd = and_parts (is_scoped known t) (is_scoped known u) sc.1 in
    let er = and_parts (clones_early [] t) (clones_early [] u) k.early in
    let d = split-different (defined t) (defined u) k.once in
    record {
      scoped = sd.1;
      early = er.1;
      once = d.1;
      distinct = k.distinct;
      apart = λ z e f. k.apart z e (in-right z (defined t) (defined u) f);
      values = k.values;
      placed = k.placed;
      same = k.same;
      plain = λ z e. absurd (false≢true e);
      fresh_known = λ z e. absurd (false≢true e);
      later = λ z e. k.later z (in-right z (defined t) (defined u) e);
      sourced = λ z e.
          k.sourced z (in-right z (defined t) (defined u) e)
          ∙ ap (λ o. unwrap_or (first_of o (source_in u z)) z) (no-source t z (false_from_ne_true (is_in z (defined t)) (λ f. d.2 z f e)));
    }
