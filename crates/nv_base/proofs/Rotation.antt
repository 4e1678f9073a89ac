-- A rotation is the sum of what moves up and what comes round.
use Rattle.std.proofs.Common.{◌≡◌, ℕ, zero, suc, ◌+◌, ◌-◌, ◌*◌, ◌/◌, ◌%◌, ◌^◌, ◌<◌, ◌≤◌, bit_or, ap, sym, subst, ◌∙◌, arith}
use Rattle.std.proofs.lemmas.Nat.{or_shifted, mod-pow-add, pow-add, pow_pos}
use Rattle.std.proofs.Math.Nat.{mul-mod_left, div-lt_iff_lt-mul}
use Rattle.std.specs.Int.Bits.{or_self}
use Rattle.std.specs.Int.{w32, rotate_left}
use Rattle.nv_base.specs.Words.{rotated_left}

-- what moves up is a multiple of 2 ^ k
moved : (x k : ℕ) → k ≤ 32 → (m : ℕ) × (x * 2 ^ k % 2 ^ 32 ≡ m * 2 ^ k)
moved x k le =
    let whole : 32 - k + k ≡ 32 = omega arith in
    let m = x * 2 ^ k / 2 ^ k % 2 ^ (32 - k) in
    let last : m * 2 ^ k + 0 ≡ m * 2 ^ k = omega arith in
    (m, ap (λ n. x * 2 ^ k % 2 ^ n) (sym whole) ∙ mod-pow-add (x * 2 ^ k) (32 - k) k ∙ ap (λ n. m * 2 ^ k + n) (mul-mod_left x (2 ^ k)) ∙ last)

-- what comes round has k digits
pub comes_round : (x k : ℕ) → x < 2 ^ 32 → k ≤ 32 → x / 2 ^ (32 - k) < 2 ^ k
comes_round x k fits le =
    let whole : k + (32 - k) ≡ 32 = omega arith in
    let product : 2 ^ k * 2 ^ (32 - k) ≡ 2 ^ 32 = sym (pow-add 2 k (32 - k)) ∙ ap (λ n. 2 ^ n) whole in
    (div-lt_iff_lt-mul (pow_pos (32 - k))).1 (subst (λ n. x < n) (sym product) fits)

pub joined : (x k : ℕ) → x < 2 ^ 32 → k ≤ 32 → bit_or (x * 2 ^ k % 2 ^ 32) (x / 2 ^ (32 - k)) ≡ rotated_left k x
joined x k fits le =
    let m = moved x k le in
    ap (λ n. bit_or n (x / 2 ^ (32 - k))) m.1
    ∙ or_shifted m.0 k (x / 2 ^ (32 - k)) (comes_round x k fits le)
    ∙ sym (ap (λ n. n + x / 2 ^ (32 - k)) m.1)

-- the machine's rotation
pub rotation : (k x : ℕ) → x < 2 ^ 32 → k ≤ 31 → rotate_left w32 x k ≡ rotated_left k x
rotation zero x fits le =
    let up : x * 1 % 2 ^ 32 ≡ x = grind arith in
    let round : x / 1 ≡ x = grind arith in
    let none : x / 2 ^ 32 ≡ 0 = grind arith in
    let some : x + 0 ≡ x = omega arith in
    ap (λ n. bit_or n (x / 1)) up ∙ ap (λ n. bit_or x n) round ∙ or_self x ∙ sym (ap (λ n. n + x / 2 ^ 32) up ∙ ap (λ n. x + n) none ∙ some)
rotation (suc k) x fits le =
    let count : suc k % 32 ≡ suc k = grind arith in
    let back : (32 - suc k) % 32 ≡ 32 - suc k = grind arith in
    ap (λ n. bit_or (x * 2 ^ n % 2 ^ 32) (x / 2 ^ ((32 - n) % 32))) count
    ∙ ap (λ n. bit_or (x * 2 ^ suc k % 2 ^ 32) (x / 2 ^ n)) back
    ∙ joined x (suc k) fits (omega arith)
