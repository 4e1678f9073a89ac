-- a signed number times a natural one
use Rattle.std.proofs.Common.{◌≡◌, ℕ, suc, ◌+◌, ◌*◌, ◌-◌, ◌<◌, ◌≤◌, ℤ, pos, negsuc, ◌+ℤ◌, ◌*ℤ◌, ◌≤ℤ◌, ap, arith}
use Rattle.std.proofs.Math.Nat.{mul-add, mul-le-mul}
use Rattle.std.proofs.Common.{◌^◌, to_z, of_z}
use Rattle.std.specs.Int.{w128}
use Rattle.zo_model.specs.Program.{AtMost}
use Rattle.std.proofs.lemmas.Int.{ints}
use borrow.Author.Differences.{up, down, same_in, sum_is_lem, product_is, at_most_in, le_out}

pub scale_is : (m : ℕ) (z : ℤ) → (up (pos m *ℤ z) ≡ m * up z) × (down (pos m *ℤ z) ≡ m * down z)
scale_is m z = let p = product_is (pos m) z in (omega (arith, p.0), omega (arith, p.1))

pub scale-zero : (m : ℕ) → pos m *ℤ pos 0 ≡ pos 0
scale-zero m = omega (arith, ints)

pub scale-add : (m : ℕ) (a b : ℤ) → pos m *ℤ (a +ℤ b) ≡ pos m *ℤ a +ℤ pos m *ℤ b
scale-add m a b =
    let s : m * ((up (a +ℤ b) + down a) + down b) ≡ m * ((down (a +ℤ b) + up a) + up b) = ap (λ k. m * k) (sum_is_lem a b) in
    let t = simp mul-add at s in
    same_in (pos m *ℤ (a +ℤ b)) (pos m *ℤ a +ℤ pos m *ℤ b)
    (omega (arith, sum_is_lem (pos m *ℤ a) (pos m *ℤ b), scale_is m a, scale_is m b, scale_is m (a +ℤ b)))

pub scale-le : (m : ℕ) (a b : ℤ) → a ≤ℤ b → (pos m *ℤ a) ≤ℤ (pos m *ℤ b)
scale-le m a b h =
    let e : ((up b + down a) - (up a + down b)) + (up a + down b) ≡ up b + down a = omega (arith, le_out a b h) in
    let s : m * (((up b + down a) - (up a + down b)) + (up a + down b)) ≡ m * (up b + down a) = ap (λ k. m * k) e in
    let t = simp mul-add at s in
    at_most_in (pos m *ℤ a) (pos m *ℤ b) (omega (arith, scale_is m a, scale_is m b))

pub product_bounded : (m b : ℕ) (a : ℤ) → m < 2 ^ 32 → AtMost b a → AtMost (2 ^ 32 * b) (pos m *ℤ a)
product_bounded m b (pos n) h k =
    let le : m * n ≤ 2 ^ 32 * b = mul-le-mul (omega arith) (omega (arith, ints, k.high)) in
    record { low = omega (arith, ints); high = omega (arith, ints) }
product_bounded m b (negsuc n) h k =
    let le : m * suc n ≤ 2 ^ 32 * b = mul-le-mul (omega arith) (omega (arith, ints, k.low)) in
    record { low = omega (arith, ints); high = omega (arith, ints) }

pub AtMost-more : (b c : ℕ) (a p : ℤ) → AtMost b a → AtMost c p → AtMost (b + c) (a +ℤ p)
AtMost-more b c a p h k = record { low = omega (arith, ints, h.low, k.low); high = omega (arith, ints, h.high, k.high) }

pub AtMost-wider : (b c : ℕ) (a : ℤ) → b ≤ c → AtMost b a → AtMost c a
AtMost-wider b c a le h = record { low = omega (arith, ints, h.low); high = omega (arith, ints, h.high) }

-- a sum of 128 bits that has room
pub add_is : (b c : ℕ) (s p : ℤ) → AtMost b s → AtMost c p → b + c < 2 ^ 127 → to_z w128 (of_z w128 (s +ℤ to_z w128 (of_z w128 p))) ≡ s +ℤ p
add_is b c s p h k room = omega (arith, ints, h.low, h.high, k.low, k.high)
