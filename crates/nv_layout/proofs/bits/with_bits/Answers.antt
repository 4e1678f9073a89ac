use Rattle.std.proofs.Common.{◌≡◌, ℕ, ◌+◌, ◌-◌, ◌*◌, ◌/◌, ◌%◌, ◌^◌, ◌<◌, ◌≤◌, sym, ap, ◌∙◌, subst, arith, bit_and, bit_or}
use Rattle.std.proofs.lemmas.Nat.{and_mask, one_shl, or_shifted, shl_whole, shr-shr, shr_below, mul-add-lt, mod_below, pow_pos, pow-add}
use Rattle.nv_layout.proofs.bits.with_bits.Goals as goal

mask : (x n : ℕ) → n < 64 → bit_and x ((1 * 2 ^ n) % 2 ^ 64 - 1) ≡ x % 2 ^ n
mask x n h = ap (λ k. bit_and x (k - 1)) (one_shl n 64 h) ∙ and_mask x n

sum_of_parts : (x r n v : ℕ) → 1 ≤ n → n ≤ 32 → r + n ≤ 64 → x < 2 ^ 64 →
    bit_or (bit_or ((x / 2 ^ r / 2 ^ n * 2 ^ n) % 2 ^ 64) (bit_and v ((1 * 2 ^ n) % 2 ^ 64 - 1)) * 2 ^ r % 2 ^ 64) (bit_and x ((1 * 2 ^ r) % 2 ^ 64 - 1))
    ≡ (x / 2 ^ (r + n) * 2 ^ n + v % 2 ^ n) * 2 ^ r + x % 2 ^ r
sum_of_parts x r n v some word inside fits =
    let j : ℕ = 64 - (r + n) in
    let h : ℕ = x / 2 ^ (r + n) in
    let y : ℕ = h * 2 ^ n + v % 2 ^ n in
    let hs : x / 2 ^ r / 2 ^ n ≡ h = shr-shr x r n in
    let e : 64 ≡ j + (r + n) = omega arith in
    let high : h < 2 ^ j = shr_below x j (r + n) (subst (λ k. x < 2 ^ k) e fits) in
    let low : v % 2 ^ n < 2 ^ n = mod_below v (2 ^ n) (pow_pos n) in
    let below : y < 2 ^ n * 2 ^ j = mul-add-lt h (2 ^ n) (v % 2 ^ n) (2 ^ j) high low in
    let fitting : y < 2 ^ (n + j) = subst (λ k. y < k) (sym (pow-add 2 n j)) below in
    let top : (h * 2 ^ n) % 2 ^ 64 ≡ h * 2 ^ n = shl_whole h j n 64 high (omega arith) in
    let inner : bit_or ((x / 2 ^ r / 2 ^ n * 2 ^ n) % 2 ^ 64) (bit_and v ((1 * 2 ^ n) % 2 ^ 64 - 1)) ≡ y
    = ap (λ k. bit_or ((k * 2 ^ n) % 2 ^ 64) (bit_and v ((1 * 2 ^ n) % 2 ^ 64 - 1))) hs
    ∙ ap (λ k. bit_or k (bit_and v ((1 * 2 ^ n) % 2 ^ 64 - 1))) top
    ∙ ap (λ k. bit_or (h * 2 ^ n) k) (mask v n (omega arith))
    ∙ or_shifted h n (v % 2 ^ n) low in
    let whole : (y * 2 ^ r) % 2 ^ 64 ≡ y * 2 ^ r = shl_whole y (n + j) r 64 fitting (omega arith) in
    ap (λ k. bit_or ((k * 2 ^ r) % 2 ^ 64) (bit_and x ((1 * 2 ^ r) % 2 ^ 64 - 1))) inner
    ∙ ap (λ k. bit_or k (bit_and x ((1 * 2 ^ r) % 2 ^ 64 - 1))) whole
    ∙ ap (λ k. bit_or (y * 2 ^ r) k) (mask x r (omega arith))
    ∙ or_shifted y r (x % 2 ^ r) (mod_below x (2 ^ r) (pow_pos r))

pub returns : goal.returns
returns c = sum_of_parts c.args.both c.args.below c.args.n c.args.v c.requires.some c.requires.word c.requires.inside (omega (arith, c.ranges.both))
