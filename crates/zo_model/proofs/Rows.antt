-- what the limits of a row give
use Rattle.std.proofs.Common.{ℕ, zero, suc, ◌+◌, ◌<◌, ◌≤◌, ◌^◌, List, [], ◌∷◌, length, max, get_or, ℤ, arith}
use Rattle.std.specs.List.{All}
use Rattle.std.proofs.lemmas.Int.{ints}
use Rattle.std.proofs.lemmas.List.Elements.{All-nil, All-cons, All-weaker}
use Rattle.zo_model.specs.Program.{AtMost, AreTerms, AreSmallTerms, IsCoefficient, Rise}

pub rise_at : {B : Type 0} (ps : List (ℕ × B)) (lo n i : ℕ) (d : ℕ × B) → Rise lo n ps → i < length ps → (get_or ps i d).0 < n
rise_at [] lo n i d h lt = absurd (omega arith)
rise_at (p ∷ ps) lo n zero d h lt = h.1
rise_at (p ∷ ps) lo n (suc i) d h lt = rise_at ps (suc p.0) n i d h.2 (omega arith)

pub rise_length : {B : Type 0} (ps : List (ℕ × B)) (lo n : ℕ) → Rise lo n ps → length ps + lo ≤ max lo n
rise_length [] lo n h = omega arith
rise_length (p ∷ ps) lo n h =
    let ih : length ps + suc p.0 ≤ max (suc p.0) n = rise_length ps (suc p.0) n h.2 in
    omega (arith, h.0, h.1)

pub rise_below : {B : Type 0} (ps : List (ℕ × B)) (lo n : ℕ) → Rise lo n ps → All (λ p. p.0 < n) ps
rise_below [] lo n h = All-nil (λ p. p.0 < n)
rise_below (p ∷ ps) lo n h = All-cons (λ p. p.0 < n) p ps h.1 (rise_below ps (suc p.0) n h.2)

pub coefficient_small : (a : ℤ) → IsCoefficient a → AtMost (2 ^ 15) a
coefficient_small a h = record { low = omega (arith, ints, h.low); high = omega (arith, ints, h.high) }

-- terms of a row are few, over columns that are there, with small coefficients
pub terms_small : (n : ℕ) (ts : List (ℕ × ℤ)) → AreTerms n ts → AreSmallTerms n ts
terms_small n ts h = record {
  short = omega (arith, rise_length ts 0 n h.rise, h.few);
  within = rise_below ts 0 n h.rise;
  coefficients_fit = All-weaker (λ t. IsCoefficient t.1) (λ t. AtMost (2 ^ 15) t.1) (λ t k. coefficient_small t.1 k) ts h.coefficients_fit;
}
