-- Sums over a list in which each element has a label: over all of them, or label by label.
use Rattle.std.proofs.Common.{◌≡◌, ◌≢◌, ℕ, zero, suc, ◌+◌, ◌*◌, ◌<◌, ◌≤◌, nat_eq, Bool, List, [], ◌∷◌, filter, refl, sym, ap, ◌∙◌, ⊎_elim, arith}
use Rattle.std.specs.Prelude.{cond}
use Rattle.std.proofs.lemmas.Bool.{cases_eq, eq-eqb, ne_eqb}
use Rattle.place_plan.proofs.Sound.{Each}

abbrev pub summed : {X : Type 0} → (X → ℕ) → List X → ℕ
summed cost [] = 0
summed cost (x ∷ xs) = cost x + summed cost xs

-- the elements of a label
abbrev pub those : {X : Type 0} → (X → ℕ) → ℕ → List X → List X
those label l xs = filter (λ x. nat_eq (label x) l) xs

module _ {X : Type 0} (cost label : X → ℕ) (weight : ℕ → ℕ) where
  -- each by the weight of its label
  abbrev pub weighed : List X → ℕ
  weighed [] = 0
  weighed (x ∷ xs) = cost x * weight (label x) + weighed xs

  -- n labels from l on, each by its weight
  abbrev pub by_labels : ℕ → ℕ → List X → ℕ
  by_labels l zero xs = 0
  by_labels l (suc n) xs = summed cost (those label l xs) * weight l + by_labels (suc l) n xs

  none : (l n : ℕ) → by_labels l n [] ≡ 0
  none l zero = refl
  none l (suc n) = let h = none (suc l) n in omega (arith, h)

  skipped : (l : ℕ) (x : X) (xs : List X) → label x ≢ l → summed cost (those label l (x ∷ xs)) ≡ summed cost (those label l xs)
  skipped l x xs h = ap (λ (b : Bool). summed cost (cond b (x ∷ those label l xs) (those label l xs))) (ne_eqb (label x) l h)

  taken : (l : ℕ) (x : X) (xs : List X) → label x ≡ l → summed cost (those label l (x ∷ xs)) ≡ cost x + summed cost (those label l xs)
  taken l x xs h = ap (λ (b : Bool). summed cost (cond b (x ∷ those label l xs) (those label l xs))) (eq-eqb (label x) l h)

  -- an element of none of these labels
  outside : (l n : ℕ) (x : X) (xs : List X) → label x < l → by_labels l n (x ∷ xs) ≡ by_labels l n xs
  outside l zero x xs h = refl
  outside l (suc n) x xs h =
      let a = skipped l x xs (λ e. absurd (omega (arith, e, h))) in
      let b = outside (suc l) n x xs (omega (arith, h)) in
      ap (λ s. s * weight l + by_labels (suc l) n (x ∷ xs)) a ∙ ap (λ s. summed cost (those label l xs) * weight l + s) b

  add_first : (c s w r : ℕ) → (c + s) * w + r ≡ c * w + (s * w + r)
  add_first c s w r = omega arith

  add_later : (c s w r : ℕ) → s * w + (c + r) ≡ c + (s * w + r)
  add_later c s w r = omega arith

  -- an element of one of them
  inside : (l n : ℕ) (x : X) (xs : List X) → l ≤ label x → label x < l + n → by_labels l n (x ∷ xs) ≡ cost x * weight (label x) + by_labels l n xs
  inside l zero x xs h g = absurd (omega (arith, h, g))
  inside l (suc n) x xs h g =
      ⊎_elim
      (λ (same : label x ≡ l).
      let a = taken l x xs same in
      let b = outside (suc l) n x xs (omega (arith, same)) in
      ap (λ s. s * weight l + by_labels (suc l) n (x ∷ xs)) a
      ∙ (ap (λ s. (cost x + summed cost (those label l xs)) * weight l + s) b
      ∙ (add_first (cost x) (summed cost (those label l xs)) (weight l) (by_labels (suc l) n xs) ∙ ap (λ k. cost x * weight k + by_labels l (suc n) xs) (sym same))))
      (λ (other : label x ≢ l).
      let a = skipped l x xs other in
      let b = inside (suc l) n x xs (omega (arith, h, other)) (omega (arith, g)) in
      ap (λ s. s * weight l + by_labels (suc l) n (x ∷ xs)) a
      ∙ (ap (λ s. summed cost (those label l xs) * weight l + s) b ∙ add_later (cost x * weight (label x)) (summed cost (those label l xs)) (weight l) (by_labels (suc l) n xs)))
      (cases_eq (label x) l)

  pub by_each : (n : ℕ) (xs : List X) → Each (λ x. label x < n) xs → weighed xs ≡ by_labels 0 n xs
  by_each n [] h = sym (none 0 n)
  by_each n (x ∷ xs) h =
      let a = by_each n xs h.1 in
      let lt = h.0 in
      let b = inside 0 n x xs (omega arith) (omega (arith, lt)) in
      omega (arith, a, b)
