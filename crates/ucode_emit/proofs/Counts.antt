-- How many pending moves there are, and how many read a place.
use Rattle.std.proofs.Common.{◌≡◌, ℕ, zero, suc, ◌+◌, ◌<◌, ◌≤◌, Bool, true, false, cond, nat_eq, Option, Some, None, is_some, List, [], ◌∷◌, length, get_or, set, count_by, refl, sym, ap, subst, ◌∙◌, ⊎_elim, arith}
use Rattle.std.proofs.lemmas.Bool.{eqb-true, eq-eqb, ne_eqb, false≢true, cases_lt}
use Rattle.std.proofs.lemmas.List.Sums.{sum_by-cons, sum_by-set, get_or-le-sum_by}
use Rattle.std.proofs.lemmas.List.{get_or_past}
use Rattle.place_plan.specs.declared.place.Place.{Place}
use Rattle.ucode_emit.specs.inner.Pending.{number, Table, source_at, reads, readings, pending_count, IsPending}

-- 1 where a test holds, else 0
abbrev pub one_if : Bool → ℕ
one_if b = cond b 1 0

pub count-cons : {X : Type 0} (p : X → Bool) (x : X) (xs : List X) → count_by p (x ∷ xs) ≡ one_if (p x) + count_by p xs
count-cons p x xs = sum_by-cons (λ y. one_if (p y)) x xs

-- the sum of what a function gives for the numbers of pending moves, from a number on
abbrev over : (ℕ → ℕ) → ℕ → Table → ℕ
over g i [] = 0
over g i (None ∷ os) = over g (suc i) os
over g i (Some p ∷ os) = g i + over g (suc i) os

over-none : (i : ℕ) (os : Table) → over (λ k. 0) i os ≡ 0
over-none i [] = refl
over-none i (None ∷ os) = over-none (suc i) os
over-none i (Some p ∷ os) = let rest = over-none (suc i) os in omega arith

over-plus : (f g h : ℕ → ℕ) → ((k : ℕ) → h k ≡ f k + g k) → (i : ℕ) (os : Table) → over h i os ≡ over f i os + over g i os
over-plus f g h e i [] = refl
over-plus f g h e i (None ∷ os) = over-plus f g h e (suc i) os
over-plus f g h e i (Some p ∷ os) = let rest = over-plus f g h e (suc i) os in let here = e i in omega arith

-- where each of them gives at least 1, their sum is at least their number
count-le-over : (g : ℕ → ℕ) (i : ℕ) (os : Table) → ((j : ℕ) → is_some (get_or os j None) ≡ true → 1 ≤ g (i + j)) → count_by is_some os ≤ over g i os
count-le-over g i [] h = omega arith
count-le-over g i (None ∷ os) h =
    let rest = count-le-over g (suc i) os (λ j e. subst (λ n. 1 ≤ g n) (omega arith) (h (suc j) e)) in
    omega (arith, count-cons is_some None os)
count-le-over g i (Some p ∷ os) h =
    let rest = count-le-over g (suc i) os (λ j e. subst (λ n. 1 ≤ g n) (omega arith) (h (suc j) e)) in
    let here : 1 ≤ g i = subst (λ n. 1 ≤ g n) (omega arith) (h 0 refl) in
    omega (arith, count-cons is_some (Some p) os)

-- 1 at one number, else 0
abbrev at_one : ℕ → ℕ → ℕ
at_one n k = one_if (nat_eq n k)

at_one-other : (n k : ℕ) → (n ≡ k → ⊥) → at_one n k ≡ 0
at_one-other n k h = ap one_if (ne_eqb n k h)

over-past : (n i : ℕ) (os : Table) → n < i → over (at_one n) i os ≡ 0
over-past n i [] h = refl
over-past n i (None ∷ os) h = over-past n (suc i) os (omega arith)
over-past n i (Some p ∷ os) h =
    let rest = over-past n (suc i) os (omega arith) in
    let here = at_one-other n i (λ (e : n ≡ i). omega arith) in
    omega arith

over-le-one : (n i : ℕ) (os : Table) → over (at_one n) i os ≤ 1
over-le-one n i [] = omega arith
over-le-one n i (None ∷ os) = over-le-one n (suc i) os
over-le-one n i (Some p ∷ os) = head n i (nat_eq n i) refl (over (at_one n) (suc i) os) (over-le-one n (suc i) os) (over-past n (suc i) os)
  where
    head : (n i : ℕ) (b : Bool) → nat_eq n i ≡ b → (r : ℕ) → r ≤ 1 → (n < suc i → r ≡ 0) → one_if b + r ≤ 1
    head n i true e r h z = let same = eqb-true n i e in let rest = z (omega arith) in omega arith
    head n i false e r h z = omega arith

over-absent : (n i j : ℕ) (os : Table) → n ≡ i + j → is_some (get_or os j None) ≡ false → over (at_one n) i os ≡ 0
over-absent n i j [] e h = refl
over-absent n i zero (None ∷ os) e h = over-past n (suc i) os (omega arith)
over-absent n i zero (Some p ∷ os) e h = absurd (false≢true (sym h))
over-absent n i (suc j) (None ∷ os) e h = over-absent n (suc i) j os (omega arith) h
over-absent n i (suc j) (Some p ∷ os) e h =
    let rest = over-absent n (suc i) j os (omega arith) h in
    let here = at_one-other n i (λ (f : n ≡ i). omega arith) in
    omega arith

-- one source is the place of at most one pending move's target, and not at all that of a place into which none is pending
one-source : (z : ℕ) (os : Table) (o : Option Place) → is_some (get_or os z None) ≡ false → over (λ k. one_if (reads k o)) 0 os + one_if (reads z o) ≤ one_if (is_some o)
one-source z os None h = let none = over-none 0 os in omega arith
one-source z os (Some p) h = at_place (nat_eq (number p) z) refl
  where
    at_place : (b : Bool) → nat_eq (number p) z ≡ b → over (at_one (number p)) 0 os + one_if b ≤ 1
    at_place true e = let none = over-absent (number p) 0 z os (let same = eqb-true (number p) z e in omega arith) h in omega arith
    at_place false e = let most = over-le-one (number p) 0 os in omega arith

sources-le : (z : ℕ) (os xs : Table) → is_some (get_or os z None) ≡ false → over (λ k. readings xs k) 0 os + readings xs z ≤ pending_count xs
sources-le z os [] h = let none = over-none 0 os in omega arith
sources-le z os (x ∷ xs) h =
    let rest = sources-le z os xs h in
    let here = one-source z os x h in
    let split = over-plus (λ k. one_if (reads k x)) (λ k. readings xs k) (λ k. readings (x ∷ xs) k) (λ k. count-cons (reads k) x xs) 0 os in
    omega (arith, count-cons (reads z) x xs, count-cons is_some x xs)

-- where the target of each pending move is read, nothing else is
pub nothing-else-read : (z : ℕ) (src : Table) → is_some (source_at src z) ≡ false → ((k : ℕ) → IsPending src k → 1 ≤ readings src k) → readings src z ≡ 0
nothing-else-read z src h each =
    let least = count-le-over (λ k. readings src k) 0 src (λ j e. subst (λ n. 1 ≤ readings src n) (omega arith) (each j e)) in
    let most = sources-le z src src h in
    omega arith

-- ---- one entry changes

pub count-set : {X : Type 0} (p : X → Bool) (xs : List X) (i : ℕ) (y d : X) → i < length xs → count_by p (set xs i y) + one_if (p (get_or xs i d)) ≡ count_by p xs + one_if (p y)
count-set p xs i y d h = sum_by-set (λ x. one_if (p x)) xs i y d h

pub read-by-one : (src : Table) (i : ℕ) (p : Place) → i < length src → source_at src i ≡ Some p → 1 ≤ readings src (number p)
read-by-one src i p h e =
    let here = get_or-le-sum_by (λ o. one_if (reads (number p) o)) src i None h in
    let one : one_if (reads (number p) (get_or src i None)) ≡ 1 = ap (λ o. one_if (reads (number p) o)) e ∙ ap one_if (eq-eqb (number p) (number p) refl) in
    omega arith

pub within-table : (src : Table) (i : ℕ) (p : Place) → source_at src i ≡ Some p → i < length src
within-table src i p e = ⊎_elim (λ (h : i < length src). h) (λ (h : length src ≤ i). let f = get_or_past src i None h in let bad : None ≡ Some p = sym f ∙ e in cc) (cases_lt i (length src))
