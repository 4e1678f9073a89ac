-- The starts of labels rise inside the code, so there are no more of them than instructions.
use Rattle.std.proofs.Common.{◌≡◌, ℕ, zero, suc, ◌<◌, ◌≤◌, List, length, slice_index, refl, arith}
use Rattle.uc_isa.specs.declared.instruction.Instr.{Instr}
use Rattle.uc_isa.specs.Starts.{HasShape, AreInside}

start-high : (code : List Instr) (starts : List ℕ) → HasShape code starts → (k : ℕ) → k < length starts → k ≤ slice_index starts k
start-high code starts h zero l = omega arith
start-high code starts h (suc k) l =
    let low = start-high code starts h k (omega (arith, l)) in
    let more = h.rises k (suc k) (omega arith) l in
    omega (arith, low, more)

pub starts-few : (code : List Instr) (starts : List ℕ) → HasShape code starts → AreInside code starts → length starts ≤ length code
starts-few code starts h inside = by (length starts) refl
  where
    by : (n : ℕ) → length starts ≡ n → length starts ≤ length code
    by zero e = omega (arith, e)
    by (suc n) e =
        let l : n < length starts = omega (arith, e) in
        let low = start-high code starts h n l in
        let last : slice_index starts n < length code = inside n 0 l in
        omega (arith, e, low, last)
