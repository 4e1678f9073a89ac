-- The sum of the halves of a word, twice.
use Rattle.std.proofs.Common.{◌≡◌, ℕ, ◌+◌, ◌-◌, ◌*◌, ◌/◌, ◌%◌, ◌<◌, ◌≤◌, bit_and, sym, ap, ◌∙◌, ⊎_elim, arith}
use Rattle.std.proofs.lemmas.Bool.{cases_lt}
use Rattle.std.proofs.lemmas.Nat.{and_mask}
use Rattle.nv_base.specs.Words.{IsWord, word, word_sum, shifted_right, rotated_left}

abbrev pub half_sum : ℕ → ℕ
half_sum w = word_sum (shifted_right 16 w) (bit_and w 65535)

-- of a sum below 2^17
small : (n : ℕ) → n < 65536 → word (n / 65536 + n % 65536) ≡ word (n * 65536 + n) / 65536
small n lt = omega arith

large : (r : ℕ) → r < 65535 → word ((65536 + r) / 65536 + (65536 + r) % 65536) ≡ word ((65536 + r) * 65536 + (65536 + r)) / 65536
large r lt = omega arith

both : (n : ℕ) → n < 131071 → word (n / 65536 + n % 65536) ≡ word (n * 65536 + n) / 65536
both n lt =
    ⊎_elim (λ (less : n < 65536). small n less)
    (λ (more : 65536 ≤ n).
    let r = n - 65536 in
    let e : 65536 + r ≡ n = omega arith in
    ap (λ m. word (m / 65536 + m % 65536)) (sym e) ∙ large r (omega arith) ∙ ap (λ m. word (m * 65536 + m) / 65536) e)
    (cases_lt n 65536)

-- of two halves
turned : (hi lo : ℕ) → hi < 65536 → lo < 65536 → word ((hi * 65536 + lo) * 65536) ≡ lo * 65536
turned hi lo p q = omega arith

joined : (hi lo : ℕ) → word_sum (hi * 65536 + lo) (lo * 65536 + hi) ≡ word ((hi + lo) * 65536 + (hi + lo))
joined hi lo = let e : hi * 65536 + lo + (lo * 65536 + hi) ≡ (hi + lo) * 65536 + (hi + lo) = omega arith in ap word e

pub half_is : (w : ℕ) → IsWord w → half_sum w ≡ w / 65536 + w % 65536
half_is w fits =
    let e : half_sum w ≡ word_sum (w / 65536) (w % 65536) = ap (word_sum (w / 65536)) (and_mask w 16) in
    let f : word_sum (w / 65536) (w % 65536) ≡ w / 65536 + w % 65536 = omega arith in
    e ∙ f

pub half_twice : (w : ℕ) → IsWord w → half_sum (half_sum w) ≡ shifted_right 16 (word_sum w (rotated_left 16 w))
half_twice w fits =
    let hi = w / 65536 in
    let lo = w % 65536 in
    let small_hi : hi < 65536 = omega arith in
    let small_lo : lo < 65536 = omega arith in
    let whole : hi * 65536 + lo ≡ w = omega arith in
    let n = hi + lo in
    let less : n < 131071 = omega arith in
    let up : rotated_left 16 w ≡ lo * 65536 + hi = ap (λ v. word (v * 65536) + hi) (sym whole) ∙ ap (λ v. v + hi) (turned hi lo small_hi small_lo) in
    let sum : word_sum w (rotated_left 16 w) ≡ word (n * 65536 + n) = ap (word_sum w) up ∙ ap (λ v. word_sum v (lo * 65536 + hi)) (sym whole) ∙ joined hi lo in
    let inner : half_sum w ≡ n = half_is w fits in
    let again : half_sum n ≡ word (n / 65536 + n % 65536) = ap (word_sum (n / 65536)) (and_mask n 16) in
    ap half_sum inner ∙ again ∙ both n less ∙ sym (ap (λ v. v / 65536) sum)
