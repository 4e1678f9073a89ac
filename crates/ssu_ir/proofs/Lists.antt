-- Tests of lists of names, and elements by their place.
use Rattle.std.proofs.Common.{◌≡◌, ℕ, zero, suc, ◌+◌, ◌<◌, ◌≤◌, Bool, true, false, not, nat_eq, ◌||◌, List, [], ◌∷◌, ◌++◌, Some, length, slice_get, map, refl, sym, ap, ◌∙◌, subst, ⊎_elim, arith, if◌then◌else◌}
use Rattle.std.specs.List.{list_all, list_any}
use Rattle.std.proofs.lemmas.Bool.{and_parts, and_from, or_cases, or_left, or_right, or_parts, not-true, not_from_false, false_from_ne_true, false≢true, eq-eqb}
use Rattle.nv_base.specs.Sets.{is_in, all_different}
use Rattle.nv_base.proofs.Sets.{same-number}
use Rattle.ssu_ir.specs.inner.Checks.{times_in}

pub in-itself : (x : ℕ) (xs : List ℕ) → is_in x (x ∷ xs) ≡ true
in-itself x xs = or_left (nat_eq x x) (is_in x xs) (eq-eqb x x refl)

pub same_tests : (a b : Bool) → (a ≡ true → b ≡ true) → (b ≡ true → a ≡ true) → a ≡ b
same_tests true true f g = refl
same_tests true false f g = absurd (false≢true (f refl))
same_tests false true f g = absurd (false≢true (g refl))
same_tests false false f g = refl

pub same-order : (a b : ℕ) → nat_eq a b ≡ nat_eq b a
same-order a b = same_tests (nat_eq a b) (nat_eq b a) (λ e. eq-eqb b a (sym (same-number a b e))) (λ e. eq-eqb a b (sym (same-number b a e)))

-- ---- all of a list

pub all_at : (p : ℕ → Bool) (xs : List ℕ) (x : ℕ) → list_all p xs ≡ true → is_in x xs ≡ true → p x ≡ true
all_at p [] x a i = absurd (cc)
all_at p (y ∷ ys) x a i =
    let q = and_parts (p y) (list_all p ys) a in
    ⊎_elim
    (λ (e : nat_eq x y ≡ true). subst (λ z. p z ≡ true) (sym (same-number x y e)) q.0)
    (λ (e : is_in x ys ≡ true). all_at p ys x q.1 e)
    (or_cases (nat_eq x y) (is_in x ys) i)

pub all_from : (p : ℕ → Bool) (xs : List ℕ) → ((x : ℕ) → is_in x xs ≡ true → p x ≡ true) → list_all p xs ≡ true
all_from p [] h = refl
all_from p (y ∷ ys) h = and_from (p y) (list_all p ys) (h y (in-itself y ys)) (all_from p ys (λ x i. h x (or_right (nat_eq x y) (is_in x ys) i)))

-- ---- some of a list

pub record Among (p : ℕ → Bool) (xs : List ℕ) : Type 0 where
  pub it : ℕ
  pub among : is_in it xs ≡ true
  pub passes : p it ≡ true

pub any_at : (p : ℕ → Bool) (xs : List ℕ) → list_any p xs ≡ true → Among p xs
any_at p [] h = absurd (cc)
any_at p (y ∷ ys) h =
    ⊎_elim
    (λ (e : p y ≡ true). record { it = y; among = in-itself y ys; passes = e })
    (λ (e : list_any p ys ≡ true). let d = any_at p ys e in record { it = d.it; among = or_right (nat_eq d.it y) (is_in d.it ys) d.among; passes = d.passes })
    (or_cases (p y) (list_any p ys) h)

pub any_from : (p : ℕ → Bool) (xs : List ℕ) (x : ℕ) → is_in x xs ≡ true → p x ≡ true → list_any p xs ≡ true
any_from p [] x i h = absurd (cc)
any_from p (y ∷ ys) x i h =
    ⊎_elim
    (λ (e : nat_eq x y ≡ true). or_left (p y) (list_any p ys) (subst (λ z. p z ≡ true) (same-number x y e) h))
    (λ (e : is_in x ys ≡ true). or_right (p y) (list_any p ys) (any_from p ys x e h))
    (or_cases (nat_eq x y) (is_in x ys) i)

-- ---- images

pub record Image (f : ℕ → ℕ) (xs : List ℕ) (v : ℕ) : Type 0 where
  pub it : ℕ
  pub among : is_in it xs ≡ true
  pub is : f it ≡ v

pub image_at : (f : ℕ → ℕ) (xs : List ℕ) (v : ℕ) → is_in v (map f xs) ≡ true → Image f xs v
image_at f [] v h = absurd (cc)
image_at f (y ∷ ys) v h =
    ⊎_elim
    (λ (e : nat_eq v (f y) ≡ true). record { it = y; among = in-itself y ys; is = sym (same-number v (f y) e) })
    (λ (e : is_in v (map f ys) ≡ true). let d = image_at f ys v e in record { it = d.it; among = or_right (nat_eq d.it y) (is_in d.it ys) d.among; is = d.is })
    (or_cases (nat_eq v (f y)) (is_in v (map f ys)) h)

pub image_from : (f : ℕ → ℕ) (xs : List ℕ) (x : ℕ) → is_in x xs ≡ true → is_in (f x) (map f xs) ≡ true
image_from f [] x i = absurd (cc)
image_from f (y ∷ ys) x i =
    ⊎_elim
    (λ (e : nat_eq x y ≡ true). or_left (nat_eq (f x) (f y)) (is_in (f x) (map f ys)) (eq-eqb (f x) (f y) (ap f (same-number x y e))))
    (λ (e : is_in x ys ≡ true). or_right (nat_eq (f x) (f y)) (is_in (f x) (map f ys)) (image_from f ys x e))
    (or_cases (nat_eq x y) (is_in x ys) i)

-- ---- different names stand once each

times-here : (b : Bool) (x y : ℕ) (ys : List ℕ) → nat_eq x y ≡ b → times_in x (y ∷ ys) ≡ (if b then 1 else 0) + times_in x ys
times-here b x y ys e = ap (λ c. (if c then 1 else 0) + times_in x ys) e

absent-times : (x : ℕ) (xs : List ℕ) → is_in x xs ≡ false → times_in x xs ≡ 0
absent-times x [] e = refl
absent-times x (y ∷ ys) e =
    let p = or_parts (nat_eq x y) (is_in x ys) e in
    let h : times_in x (y ∷ ys) ≡ 0 + times_in x ys = times-here false x y ys p.0 in
    omega (arith, absent-times x ys p.1)

present-times : (x : ℕ) (xs : List ℕ) → is_in x xs ≡ true → 1 ≤ times_in x xs
present-times x [] e = absurd (cc)
present-times x (y ∷ ys) e =
    ⊎_elim
    (λ (a : nat_eq x y ≡ true). let h : times_in x (y ∷ ys) ≡ 1 + times_in x ys = times-here true x y ys a in let g : 1 ≤ times_in x (y ∷ ys) = omega arith in g)
    (λ (a : is_in x ys ≡ true). let g : 1 ≤ times_in x (y ∷ ys) = omega (arith, present-times x ys a) in g)
    (or_cases (nat_eq x y) (is_in x ys) e)

different-at : (b : Bool) (x y : ℕ) (ys : List ℕ) → nat_eq x y ≡ b → is_in y ys ≡ false → (is_in x ys ≡ true → times_in x ys ≡ 1) → is_in x (y ∷ ys) ≡ true → times_in x (y ∷ ys) ≡ 1
different-at true x y ys e a h i =
    let z : times_in x ys ≡ 0 = absent-times x ys (subst (λ w. is_in w ys ≡ false) (sym (same-number x y e)) a) in
    times-here true x y ys e ∙ ap (λ n. 1 + n) z
different-at false x y ys e a h i =
    let in_rest : is_in x ys ≡ true = sym (ap (λ b. b || is_in x ys) e) ∙ i in
    times-here false x y ys e ∙ ap (λ n. 0 + n) (h in_rest)

pub different-times : (xs : List ℕ) → all_different xs ≡ true → (x : ℕ) → is_in x xs ≡ true → times_in x xs ≡ 1
different-times [] d x i = absurd (cc)
different-times (y ∷ ys) d x i =
    let p = and_parts (not (is_in y ys)) (all_different ys) d in
    different-at (nat_eq x y) x y ys refl (not-true (is_in y ys) p.0) (different-times ys p.1 x) i

once-rest : (b : Bool) (x y : ℕ) (ys : List ℕ) → nat_eq x y ≡ b → is_in y ys ≡ false → is_in x ys ≡ true → times_in x (y ∷ ys) ≡ 1 → times_in x ys ≡ 1
once-rest true x y ys e a i h = absurd (false≢true (sym a ∙ subst (λ w. is_in w ys ≡ true) (same-number x y e) i))
once-rest false x y ys e a i h = let g : times_in x (y ∷ ys) ≡ 0 + times_in x ys = times-here false x y ys e in omega arith

pub times-different : (xs : List ℕ) → ((x : ℕ) → is_in x xs ≡ true → times_in x xs ≡ 1) → all_different xs ≡ true
times-different [] h = refl
times-different (y ∷ ys) h =
    let absent : is_in y ys ≡ false =
    false_from_ne_true (is_in y ys)
    (λ e.
    let one : times_in y (y ∷ ys) ≡ 1 = h y (in-itself y ys) in
    let two : times_in y (y ∷ ys) ≡ 1 + times_in y ys = times-here true y y ys (eq-eqb y y refl) in
    let again : 1 ≤ times_in y ys = present-times y ys e in
    absurd (omega arith)) in
    and_from (not (is_in y ys)) (all_different ys) (not_from_false (is_in y ys) absent)
    (times-different ys (λ x i. once-rest (nat_eq x y) x y ys refl absent i (h x (or_right (nat_eq x y) (is_in x ys) i))))

-- ---- elements by their place

pub get-left : {X : Type 0} (a b : List X) (k : ℕ) (x : X) → slice_get a k ≡ Some x → slice_get (a ++ b) k ≡ Some x
get-left [] b k x e = absurd (cc)
get-left (y ∷ a) b zero x e = e
get-left (y ∷ a) b (suc k) x e = get-left a b k x e

pub get-right : {X : Type 0} (a b : List X) (k m : ℕ) → k ≡ length a + m → slice_get (a ++ b) k ≡ slice_get b m
get-right [] b k m e = let same : k ≡ m = omega arith in ap (slice_get b) same
get-right (y ∷ a) b zero m e = absurd (omega arith)
get-right (y ∷ a) b (suc k) m e = get-right a b k m (omega arith)

pub some-there : {X : Type 0} (xs : List X) (k : ℕ) → k < length xs → (x : X) × (slice_get xs k ≡ Some x)
some-there [] k l = absurd (omega arith)
some-there (y ∷ xs) zero l = (y, refl)
some-there (y ∷ xs) (suc k) l = some-there xs k (omega arith)
