-- What holds of each point of a list, by its number.
use Rattle.std.proofs.Common.{◌≡◌, ℕ, zero, suc, ◌+◌, List, [], ◌∷◌, ◌++◌, length, Some, refl, ap, ◌∙◌, subst, arith, slice_get}
use Rattle.std.specs.List.{AllByRecursion}
use Rattle.std.proofs.lemmas.Option.{none-some, same_Some}

-- the element at each place has this, places counted from a number on
abbrev pub EachFrom : {X : Type 0} → (ℕ → X → Type 0) → ℕ → List X → Type 0
EachFrom P n [] = Unit {0}
EachFrom P n (x ∷ xs) = P n x × EachFrom P (suc n) xs

pub each_map : {X : Type 0} (P Q : ℕ → X → Type 0) (n : ℕ) (xs : List X) → ((i : ℕ) (x : X) → P i x → Q i x) → EachFrom P n xs → EachFrom Q n xs
each_map P Q n [] f h = tt
each_map P Q n (x ∷ xs) f h = (f n x h.0, each_map P Q (suc n) xs f h.1)

pub each_both : {X : Type 0} (P Q : ℕ → X → Type 0) (n : ℕ) (xs : List X) → EachFrom P n xs → EachFrom Q n xs → EachFrom (λ i x. P i x × Q i x) n xs
each_both P Q n [] h g = tt
each_both P Q n (x ∷ xs) h g = ((h.0, g.0), each_both P Q (suc n) xs h.1 g.1)

pub each_append : {X : Type 0} (P : ℕ → X → Type 0) (n m : ℕ) (a b : List X) → m ≡ n + length a → EachFrom P n a → EachFrom P m b → EachFrom P n (a ++ b)
each_append P n m [] b e h g = let same : m ≡ n = omega arith in subst (λ k. EachFrom P k b) same g
each_append P n m (x ∷ a) b e h g = (h.0, each_append P (suc n) m a b (omega arith) h.1 g)

pub each_left : {X : Type 0} (P : ℕ → X → Type 0) (n : ℕ) (a b : List X) → EachFrom P n (a ++ b) → EachFrom P n a
each_left P n [] b h = tt
each_left P n (x ∷ a) b h = (h.0, each_left P (suc n) a b h.1)

pub each_right : {X : Type 0} (P : ℕ → X → Type 0) (n m : ℕ) (a b : List X) → m ≡ n + length a → EachFrom P n (a ++ b) → EachFrom P m b
each_right P n m [] b e h = let same : n ≡ m = omega arith in subst (λ k. EachFrom P k b) same h
each_right P n m (x ∷ a) b e h = each_right P (suc n) m a b (omega arith) h.1

pub each_at : {X : Type 0} (P : ℕ → X → Type 0) (n : ℕ) (xs : List X) (i : ℕ) (x : X) → EachFrom P n xs → slice_get xs i ≡ Some x → P (n + i) x
each_at P n [] i x h e = absurd (none-some x e)
each_at P n (y ∷ xs) zero x h e =
    let k : n ≡ n + zero = omega arith in
    subst (λ j. P j x) k (subst (λ z. P n z) (same_Some y x e) h.0)
each_at P n (y ∷ xs) (suc i) x h e =
    let k : suc n + i ≡ n + suc i = omega arith in
    subst (λ j. P j x) k (each_at P (suc n) xs i x h.1 e)

pub each_from : {X : Type 0} (P : ℕ → X → Type 0) (n : ℕ) (xs : List X) → ((i : ℕ) (x : X) → slice_get xs i ≡ Some x → P (n + i) x) → EachFrom P n xs
each_from P n [] h = tt
each_from P n (y ∷ xs) h =
    let k : n + zero ≡ n = omega arith in (
      subst (λ j. P j y) k (h zero y refl),
      each_from P (suc n) xs (λ i x e. let j : n + suc i ≡ suc n + i = omega arith in subst (λ z. P z x) j (h (suc i) x e)),
    )

-- counted from 0 on
pub each_here : {X : Type 0} (P : ℕ → X → Type 0) (xs : List X) (i : ℕ) (x : X) → EachFrom P 0 xs → slice_get xs i ≡ Some x → P i x
each_here P xs i x h e = let k : 0 + i ≡ i = omega arith in subst (λ j. P j x) k (each_at P 0 xs i x h e)

pub each_of : {X : Type 0} (P : ℕ → X → Type 0) (xs : List X) → ((i : ℕ) (x : X) → slice_get xs i ≡ Some x → P i x) → EachFrom P 0 xs
each_of P xs h = each_from P 0 xs (λ i x e. let k : i ≡ 0 + i = omega arith in subst (λ j. P j x) k (h i x e))

-- ---- lists whose elements all have something

pub all_left : {X : Type 0} (P : X → Type 0) (a b : List X) → AllByRecursion P (a ++ b) → AllByRecursion P a
all_left P [] b h = tt
all_left P (x ∷ a) b h = (h.0, all_left P a b h.1)

pub all_right : {X : Type 0} (P : X → Type 0) (a b : List X) → AllByRecursion P (a ++ b) → AllByRecursion P b
all_right P [] b h = h
all_right P (x ∷ a) b h = all_right P a b h.1

pub all_both : {X : Type 0} (P : X → Type 0) (a b : List X) → AllByRecursion P a → AllByRecursion P b → AllByRecursion P (a ++ b)
all_both P [] b h g = g
all_both P (x ∷ a) b h g = (h.0, all_both P a b h.1 g)

pub all_get : {X : Type 0} (P : X → Type 0) (xs : List X) (i : ℕ) (x : X) → AllByRecursion P xs → slice_get xs i ≡ Some x → P x
all_get P [] i x h e = absurd (none-some x e)
all_get P (y ∷ xs) zero x h e = subst P (same_Some y x e) h.0
all_get P (y ∷ xs) (suc i) x h e = all_get P xs i x h.1 e

pub all_of : {X : Type 0} (P : X → Type 0) (xs : List X) → ((i : ℕ) (x : X) → slice_get xs i ≡ Some x → P x) → AllByRecursion P xs
all_of P [] h = tt
all_of P (y ∷ xs) h = (h zero y refl, all_of P xs (λ i x e. h (suc i) x e))

-- the element at a place of the second of two lists
pub get_append : {X : Type 0} (a b : List X) (i n : ℕ) → n ≡ length a → slice_get (a ++ b) (n + i) ≡ slice_get b i
get_append [] b i n e = let k : n + i ≡ i = omega arith in ap (slice_get b) k
get_append (x ∷ a) b i n e = let k : n + i ≡ suc (length a + i) = omega arith in ap (slice_get (x ∷ (a ++ b))) k ∙ get_append a b i (length a) refl
