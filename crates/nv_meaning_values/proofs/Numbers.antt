-- The number of an exception, by its place.
use Rattle.std.proofs.Common.{◌≡◌, ℕ, suc, ◌+◌, Bool, true, false, List, [], ◌∷◌, refl, sym, ap, ◌∙◌, Some, None, bytes_eq, if◌then◌else◌, arith}
use Rattle.std.proofs.lemmas.Option.{same_Some}
use Rattle.nv_meaning_values.specs.Running.{number_from}
use Rattle.nv_meaning_values.specs.inner.Places.{place_from}

pub number-none : (i : ℕ) (x : List ℕ) (xs : List (List ℕ)) → place_from i x xs ≡ None → number_from (i + 1) xs x ≡ 0
number-none i x [] h = refl
number-none i x (y ∷ xs) h = by (bytes_eq x y) refl (λ k. number-none (suc i) x xs k)
  where
    by : (b : Bool) → bytes_eq x y ≡ b → (place_from (suc i) x xs ≡ None → number_from (suc i + 1) xs x ≡ 0) → number_from (i + 1) (y ∷ xs) x ≡ 0
    by true e next = let k : Some i ≡ None = sym (ap (λ b. if b then Some i else place_from (suc i) x xs) e) ∙ h in cc
    by false e next = let s : i + 1 + 1 ≡ suc i + 1 = omega arith in ap (λ b. if b then i + 1 else number_from (i + 1 + 1) xs x) e ∙ ap (λ k. number_from k xs x) s ∙ next (sym (ap (λ b. if b then Some i else place_from (suc i) x xs) e) ∙ h)

pub number-found : (i j : ℕ) (x : List ℕ) (xs : List (List ℕ)) → place_from i x xs ≡ Some j → number_from (i + 1) xs x ≡ j + 1
number-found i j x [] h = cc
number-found i j x (y ∷ xs) h = by (bytes_eq x y) refl (λ k. number-found (suc i) j x xs k)
  where
    by : (b : Bool) → bytes_eq x y ≡ b → (place_from (suc i) x xs ≡ Some j → number_from (suc i + 1) xs x ≡ j + 1) → number_from (i + 1) (y ∷ xs) x ≡ j + 1
    by true e next = ap (λ b. if b then i + 1 else number_from (i + 1 + 1) xs x) e ∙ ap (λ k. k + 1) (same_Some _ _ (sym (ap (λ b. if b then Some i else place_from (suc i) x xs) e) ∙ h))
    by false e next = let s : i + 1 + 1 ≡ suc i + 1 = omega arith in ap (λ b. if b then i + 1 else number_from (i + 1 + 1) xs x) e ∙ ap (λ k. number_from k xs x) s ∙ next (sym (ap (λ b. if b then Some i else place_from (suc i) x xs) e) ∙ h)
