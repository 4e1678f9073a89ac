-- Shifts by 32 places or more.
use Rattle.std.proofs.Common.{◌≡◌, ◌∙◌, ap, sym, ℕ, ◌+◌, ◌-◌, ◌*◌, ◌/◌, ◌%◌, ◌^◌, ◌<◌, ◌≤◌, arith}
use Rattle.std.proofs.lemmas.Nat.{pow-add, pow_pos}
use Rattle.std.proofs.Math.Nat.{mul-mod_left, div-eq_of_lt}
use Rattle.nv_base.specs.Words.{shifted_left, shifted_right, rotated_left}

high : (n : ℕ) → 32 ≤ n → 2 ^ n ≡ 2 ^ (n - 32) * 2 ^ 32
high n h = let e : n ≡ n - 32 + 32 = omega arith in ap (λ k. 2 ^ k) e ∙ pow-add 2 (n - 32) 32

pub left-out : (n x : ℕ) → 32 ≤ n → 0 ≡ shifted_left n x
left-out n x h =
    let e : x * 2 ^ n ≡ x * 2 ^ (n - 32) * 2 ^ 32 = ap (λ k. x * k) (high n h) ∙ omega arith in
    sym (ap (λ k. k % 2 ^ 32) e ∙ mul-mod_left (x * 2 ^ (n - 32)) (2 ^ 32))

pub right-out : (n x : ℕ) → 32 ≤ n → x < 2 ^ 32 → 0 ≡ shifted_right n x
right-out n x h small =
    let some : 0 < 2 ^ (n - 32) = pow_pos (n - 32) in
    let big : 2 ^ 32 ≤ 2 ^ n = omega (arith, high n h) in
    let below : x < 2 ^ n = omega arith in sym (div-eq_of_lt below)

pub rotate-out : (n x : ℕ) → 32 ≤ n → x ≡ rotated_left n x
rotate-out n x h =
    let e : 32 - n ≡ 0 = omega arith in
    let one : x / 2 ^ (32 - n) ≡ x = ap (λ k. x / 2 ^ k) e ∙ omega arith in
    let none : 0 ≡ shifted_left n x = left-out n x h in
    sym (ap (λ k. k + x / 2 ^ (32 - n)) (sym none) ∙ (let z : 0 + x / 2 ^ (32 - n) ≡ x / 2 ^ (32 - n) = omega arith in z) ∙ one)
