-- The numbers of places.
use Rattle.std.proofs.Common.{◌≡◌, ℕ, zero, suc, ◌+◌, ◌*◌, ◌<◌, refl, sym, ap, ◌∙◌, arith}
use Rattle.place_plan.specs.declared.place.Place.{Place}
use Rattle.place_plan.specs.declared.place.Place.TheVariants.{A, B, L, LD, S, SD, Slot}
use Rattle.ucode_emit.specs.inner.Pending.{number}

-- the bank of a place
abbrev bank : Place → ℕ
bank (A k) = 0
bank (B k) = 1
bank (L k) = 2
bank (LD k) = 3
bank (S k) = 4
bank (SD k) = 5
bank (Slot k) = 6

-- its number in the bank
abbrev index : Place → ℕ
index (A k) = k
index (B k) = k
index (L k) = k
index (LD k) = k
index (S k) = k
index (SD k) = k
index (Slot k) = k

-- the place of a bank and a number
abbrev place_in : ℕ → ℕ → Place
place_in zero k = A k
place_in (suc zero) k = B k
place_in (suc (suc zero)) k = L k
place_in (suc (suc (suc zero))) k = LD k
place_in (suc (suc (suc (suc zero)))) k = S k
place_in (suc (suc (suc (suc (suc zero))))) k = SD k
place_in _ k = Slot k

place_in-itself : (p : Place) → place_in (bank p) (index p) ≡ p
place_in-itself (A k) = refl
place_in-itself (B k) = refl
place_in-itself (L k) = refl
place_in-itself (LD k) = refl
place_in-itself (S k) = refl
place_in-itself (SD k) = refl
place_in-itself (Slot k) = refl

parts : (p : Place) → (number p ≡ 7 * index p + bank p) × (bank p < 7)
parts (A k) = (omega arith, omega arith)
parts (B k) = (omega arith, omega arith)
parts (L k) = (omega arith, omega arith)
parts (LD k) = (omega arith, omega arith)
parts (S k) = (omega arith, omega arith)
parts (SD k) = (omega arith, omega arith)
parts (Slot k) = (omega arith, omega arith)

same_parts : (i j b c : ℕ) → 7 * i + b ≡ 7 * j + c → b < 7 → c < 7 → (i ≡ j) × (b ≡ c)
same_parts i j b c e f g = let same : i ≡ j = omega arith in (same, omega arith)

-- places of one number are one
pub number-injective : (p q : Place) → number p ≡ number q → p ≡ q
number-injective p q e =
    let f = parts p in
    let g = parts q in
    let s = same_parts (index p) (index q) (bank p) (bank q) (sym f.0 ∙ e ∙ g.0) f.1 g.1 in
    sym (place_in-itself p) ∙ ap (λ b. place_in b (index p)) s.1 ∙ ap (λ k. place_in (bank q) k) s.0 ∙ place_in-itself q
