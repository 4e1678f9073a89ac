-- How often a name stands in lists, and in how many stretches it lies. A stretch is n numbers from a on.
use Rattle.std.proofs.Common.{◌≡◌, ℕ, zero, suc, ◌+◌, ◌-◌, ◌<◌, ◌≤◌, min, true, false, not, nat_eq, List, [], ◌∷◌, ◌++◌, refl, sym, ap, subst, ◌∙◌, ◌⊎◌, inl, inr, ⊎_elim, arith}
use Rattle.std.specs.List.{range_with_len}
use Rattle.std.proofs.lemmas.Bool.{false≢true, and_parts, and_from, or_cases, or_left, or_right, cases_eq, cases_lt, eq-eqb, not-true, not_from_false, false_from_ne_true}
use Rattle.nv_base.specs.Sets.{is_in, all_different}
use Rattle.nv_base.proofs.Sets.{same-number}
use Rattle.ssu_make.specs.Uses.{Counts}
use Rattle.ssu_make.proofs.Assigned.{same-test}

-- 1 where a number is at least a, else 0
abbrev pub from_on : ℕ → ℕ → ℕ
from_on a z = min 1 (suc z - a)

-- 1 where it lies in a stretch, else 0
abbrev pub lies : ℕ → ℕ → ℕ → ℕ
lies a n z = from_on a z - from_on (a + n) z

pub lies-in : (a n z : ℕ) → a ≤ z → z < a + n → lies a n z ≡ 1
lies-in a n z p q = omega arith

pub lies-out : (a n z : ℕ) → (z < a) ⊎ (a + n ≤ z) → lies a n z ≡ 0
lies-out a n z (inl p) = omega arith
lies-out a n z (inr p) = omega arith

pub lies-more : (a n m z : ℕ) → lies a (n + m) z ≡ lies a n z + lies (a + n) m z
lies-more a n m z = omega arith

pub lies-least : (a n m z : ℕ) → n ≤ m → lies a n z ≤ lies a m z
lies-least a n m z le = omega arith

-- how often a number stands in a list
abbrev pub times : ℕ → List ℕ → ℕ
times z [] = 0
times z (x ∷ xs) = lies x 1 z + times z xs

pub times-append : (z : ℕ) (xs ys : List ℕ) → times z (xs ++ ys) ≡ times z xs + times z ys
times-append z [] ys = omega arith
times-append z (x ∷ xs) ys = omega (arith, times-append z xs ys)

pub times-in : (z : ℕ) (xs : List ℕ) → is_in z xs ≡ true → 0 < times z xs
times-in z [] h = absurd (false≢true h)
times-in z (x ∷ xs) h =
    ⊎_elim (λ (e : nat_eq z x ≡ true). let same = same-number z x e in omega arith) (λ (e : is_in z xs ≡ true). let rest = times-in z xs e in omega arith) (or_cases (nat_eq z x) (is_in z xs) h)

pub times-not : (z : ℕ) (xs : List ℕ) → times z xs ≡ 0 → is_in z xs ≡ false
times-not z xs h = false_from_ne_true (is_in z xs) (λ e. let p = times-in z xs e in omega arith)

pub in-times : (z : ℕ) (xs : List ℕ) → 0 < times z xs → is_in z xs ≡ true
in-times z [] h = absurd (omega arith)
in-times z (x ∷ xs) h =
    ⊎_elim (λ (e : z ≡ x). or_left (nat_eq z x) (is_in z xs) (eq-eqb z x e))
    (λ (ne : z ≡ x → ⊥). or_right (nat_eq z x) (is_in z xs) (in-times z xs (let out : lies x 1 z ≡ 0 = ⊎_elim (λ (p : z < x). omega arith) (λ (p : x ≤ z). lies-out x 1 z (inr (above z x p ne))) (cases_lt z x) in omega arith))) (cases_eq z x)
  where
    above : (z x : ℕ) → x ≤ z → (z ≡ x → ⊥) → x + 1 ≤ z
    above z x le ne = ⊎_elim (λ (p : z < x + 1). absurd (ne (omega arith))) (λ (p : x + 1 ≤ z). p) (cases_lt z (x + 1))

-- where each number stands at most once, all are different, and the other way round
pub different-from : (xs : List ℕ) → ((z : ℕ) → times z xs ≤ 1) → all_different xs ≡ true
different-from [] h = refl
different-from (x ∷ xs) h =
    let one = h x in
    and_from (not (is_in x xs)) (all_different xs) (not_from_false (is_in x xs) (times-not x xs (omega arith))) (different-from xs (λ z. let le = h z in omega arith))

pub different-times : (xs : List ℕ) → all_different xs ≡ true → (z : ℕ) → times z xs ≤ 1
different-times [] h z = omega arith
different-times (x ∷ xs) h z =
    let parts = and_parts (not (is_in x xs)) (all_different xs) h in
    let rest = different-times xs parts.1 z in
    ⊎_elim (λ (e : z ≡ x).
    let none : times z xs ≡ 0 = ⊎_elim (λ (p : times z xs < 1). omega arith) (λ (p : 1 ≤ times z xs). absurd (false≢true (sym (not-true (is_in x xs) parts.0) ∙ subst (λ y. is_in y xs ≡ true) e (in-times z xs p)))) (cases_lt (times z xs) 1) in
    omega arith)
    (λ (ne : z ≡ x → ⊥).
    let out : lies x 1 z ≡ 0 = ⊎_elim (λ (p : z < x). omega arith) (λ (p : x ≤ z). ⊎_elim (λ (q : z < x + 1). absurd (ne (omega arith))) (λ (q : x + 1 ≤ z). omega arith) (cases_lt z (x + 1))) (cases_lt z x) in
    omega arith) (cases_eq z x)

pub times-stretch : (n a z : ℕ) → times z (range_with_len a n) ≡ lies a n z
times-stretch zero a z = omega arith
times-stretch (suc n) a z = omega (arith, times-stretch n (a + 1) z)

-- ---- in how many stretches of variables a number lies

-- those of these variables: from `base x` on, as many as `size x`
abbrev pub lies_all : Counts → Counts → List ℕ → ℕ → ℕ
lies_all base size [] z = 0
lies_all base size (x ∷ xs) z = lies (base x) (size x) z + lies_all base size xs z

pub lies_all-append : (base size : Counts) (xs ys : List ℕ) (z : ℕ) → lies_all base size (xs ++ ys) z ≡ lies_all base size xs z + lies_all base size ys z
lies_all-append base size [] ys z = omega arith
lies_all-append base size (x ∷ xs) ys z = omega (arith, lies_all-append base size xs ys z)

pub lies_all-least : (base size more : Counts) (xs : List ℕ) (z : ℕ) → ((x : ℕ) → is_in x xs ≡ true → size x ≤ more x) → lies_all base size xs z ≤ lies_all base more xs z
lies_all-least base size more [] z h = omega arith
lies_all-least base size more (x ∷ xs) z h =
    let one = h x (or_left (nat_eq x x) (is_in x xs) (same-test x)) in
    let less = lies-least (base x) (size x) (more x) z one in
    let rest = lies_all-least base size more xs z (λ y i. h y (or_right (nat_eq y x) (is_in y xs) i)) in
    omega arith

-- a number outside each stretch
pub lies_all-none : (base size : Counts) (xs : List ℕ) (z : ℕ) → ((x : ℕ) → is_in x xs ≡ true → (z < base x) ⊎ (base x + size x ≤ z)) → lies_all base size xs z ≡ 0
lies_all-none base size [] z h = refl
lies_all-none base size (x ∷ xs) z h =
    let one = lies-out (base x) (size x) z (h x (or_left (nat_eq x x) (is_in x xs) (same-test x))) in
    let rest = lies_all-none base size xs z (λ y i. h y (or_right (nat_eq y x) (is_in y xs) i)) in
    omega arith

lies-cases : (a n z : ℕ) → ((lies a n z ≡ 1) × (a ≤ z) × (z < a + n)) ⊎ ((lies a n z ≡ 0) × ((z < a) ⊎ (a + n ≤ z)))
lies-cases a n z =
    ⊎_elim (λ (p : z < a). inr (lies-out a n z (inl p), inl p))
    (λ (p : a ≤ z). ⊎_elim (λ (q : z < a + n). inl (lies-in a n z p q, p, q)) (λ (q : a + n ≤ z). inr (lies-out a n z (inr q), inr q)) (cases_lt z (a + n))) (cases_lt z a)

-- stretches of different variables that are apart have a number at most once
pub lies_all-once : (base size : Counts) (xs : List ℕ) (z : ℕ) → all_different xs ≡ true
    → ((x y : ℕ) → is_in x xs ≡ true → is_in y xs ≡ true → (x ≡ y → ⊥) → (base x + size x ≤ base y) ⊎ (base y + size y ≤ base x)) → lies_all base size xs z ≤ 1
lies_all-once base size [] z d h = omega arith
lies_all-once base size (x ∷ xs) z d h =
    let parts = and_parts (not (is_in x xs)) (all_different xs) d in
    let rest = lies_all-once base size xs z parts.1 (λ a b i j. h a b (or_right (nat_eq a x) (is_in a xs) i) (or_right (nat_eq b x) (is_in b xs) j)) in
    let own = or_left (nat_eq x x) (is_in x xs) (same-test x) in
    ⊎_elim (λ (p : (lies (base x) (size x) z ≡ 1) × (base x ≤ z) × (z < base x + size x)).
    let none : lies_all base size xs z ≡ 0 =
    lies_all-none base size xs z (λ y i.
    let ne : x ≡ y → ⊥ = λ e. false≢true (sym (not-true (is_in x xs) parts.0) ∙ subst (λ w. is_in w xs ≡ true) (sym e) i) in
    let lower = p.1 in let upper = p.2 in
    ⊎_elim (λ (q : base x + size x ≤ base y). inl (omega arith)) (λ (q : base y + size y ≤ base x). inr (omega arith)) (h x y own (or_right (nat_eq y x) (is_in y xs) i) ne)) in
    omega (arith, none, p.0))
    (λ (p : (lies (base x) (size x) z ≡ 0) × ((z < base x) ⊎ (base x + size x ≤ z))). omega (arith, p.0, rest)) (lies-cases (base x) (size x) z)

-- one more for one of the variables
pub lies_all-more : (base size more : Counts) (xs : List ℕ) (x z : ℕ) → is_in x xs ≡ true → ((y : ℕ) → size y ≤ more y) → more x ≡ size x + 1 → lies_all base size xs z + lies (base x + size x) 1 z ≤ lies_all base more xs z
lies_all-more base size more [] x z i h e = absurd (false≢true i)
lies_all-more base size more (y ∷ xs) x z i h e =
    let le = h y in
    ⊎_elim (λ (p : nat_eq x y ≡ true).
    let same = same-number x y p in
    let here : lies (base x) (more x) z ≡ lies (base x) (size x) z + lies (base x + size x) 1 z = ap (λ n. lies (base x) n z) e ∙ lies-more (base x) (size x) 1 z in
    let there : lies (base y) (more y) z ≡ lies (base y) (size y) z + lies (base x + size x) 1 z = subst (λ w. lies (base w) (more w) z ≡ lies (base w) (size w) z + lies (base x + size x) 1 z) same here in
    let rest = lies_all-least base size more xs z (λ w j. h w) in
    omega (arith, there))
    (λ (p : is_in x xs ≡ true).
    let less = lies-least (base y) (size y) (more y) z le in
    let rest = lies_all-more base size more xs x z p h e in
    omega arith) (or_cases (nat_eq x y) (is_in x xs) i)
