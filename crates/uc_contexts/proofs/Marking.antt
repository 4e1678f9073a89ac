-- Numbers put into a set.
use Rattle.std.proofs.Common.{◌≡◌, ℕ, ◌+◌, ◌*◌, ◌/◌, ◌%◌, ◌^◌, ◌≤◌, ◌<◌, inl, inr, true, length, refl, ap, sym, ◌∙◌, nat_eq, bit_and, bit_or, min, max, ◌-◌, ◌⊎◌, arith, w32}
use Rattle.std.specs.Prelude.{slice_set, slice_index, ◌↔◌}
use Rattle.std.specs.Int.{bit_at}
use Rattle.std.proofs.lemmas.Bool.{cases_eq, cases_lt}
use Rattle.std.proofs.lemmas.List.{get_or-set_same, get_or-set_other, length-set}
use Rattle.std.proofs.lemmas.Nat.Bits.{bit_at_set_same, bit_at_set_other, bit_at_and, bit_at_or, bit_at-lt, bit_at_ones, bit_at_ones_above, bit_at_mask_inside, bit_at_mask_below, ones_shl, ones_shr}
use Rattle.uc_contexts.specs.Sets.{Numbers, AreNumbers, Adds, has}

-- the word with one bit more
abbrev pub marked : ℕ → ℕ → ℕ
marked w k = bit_or w (1 * 2 ^ k % 2 ^ 32)

abbrev pub put : Numbers → ℕ → ℕ → Numbers
put s x w = record { size = s.size; words = slice_set s.words (x / 32) (marked w (x % 32)) }

test-same : (a b : ℕ) → a ≡ b → nat_eq a 1 ≡ nat_eq b 1
test-same a b e = ap (λ n. nat_eq n 1) e

-- the number is in the set
pub put-same : (s : Numbers) (x w : ℕ) → x / 32 < length s.words → has (put s x w) x ≡ true
put-same s x w inside =
    let small : x % 32 < 32 = omega arith in
    test-same _ 1 (ap (λ v. bit_at v (x % 32)) (get_or-set_same s.words (x / 32) (marked w (x % 32)) 0 inside) ∙ bit_at_set_same w32 w (x % 32) small)

-- and all others are as before
pub put-other : (s : Numbers) (x w y : ℕ) → x / 32 < length s.words → w ≡ slice_index s.words (x / 32) → ¬ (y ≡ x) → has (put s x w) y ≡ has s y
put-other s x w y inside at ne = elim (cases_eq (y / 32) (x / 32)) [
  | inl same ↦ (
      let small : x % 32 < 32 = omega arith in
      let differ : (y % 32 ≡ x % 32 → ⊥) = (λ e. ne (omega arith)) in
      let word : slice_index (put s x w).words (y / 32) ≡ marked w (x % 32) = ap (slice_index (put s x w).words) same ∙ get_or-set_same s.words (x / 32) (marked w (x % 32)) 0 inside in
      test-same _ _ (ap (λ v. bit_at v (y % 32)) word ∙ bit_at_set_other w32 w (x % 32) small (y % 32) differ ∙ ap (λ v. bit_at v (y % 32)) (at ∙ ap (slice_index s.words) (sym same)))
      )
  | inr other ↦ test-same _ _ (ap (λ v. bit_at v (y % 32)) (get_or-set_other s.words (x / 32) (y / 32) (marked w (x % 32)) 0 other))
]

pub put-adds : (s : Numbers) (x w : ℕ) → x / 32 < length s.words → w ≡ slice_index s.words (x / 32) → Adds s (λ y. y ≡ x) (put s x w)
put-adds s x w inside at = λ y. elim (cases_eq y x) [
  | inl same ↦ (λ _. inr same, λ _. ap (has (put s x w)) same ∙ put-same s x w inside)
  | inr ne ↦ (
    λ h. inl (sym (put-other s x w y inside at ne) ∙ h),
    λ h. elim h [
      | inl before ↦ put-other s x w y inside at ne ∙ before
      | inr same ↦ absurd (ne same)
    ],
  )
]

pub put-numbers : (s : Numbers) (x w : ℕ) → AreNumbers s → x < s.size → x / 32 < length s.words → w ≡ slice_index s.words (x / 32) → AreNumbers (put s x w)
put-numbers s x w h less inside at = record {
  room = let same : length (put s x w).words ≡ length s.words = length-set s.words (x / 32) (marked w (x % 32)) in omega (arith, h.room);
  below = λ y past. put-other s x w y inside at (λ e. omega arith) ∙ h.below y past;
}

-- ---- numbers from a first one on

-- the second set is the first with the numbers from a first one up to another
pub record Filled (s : Numbers) (first next : ℕ) (s' : Numbers) : Type 0 where
  pub size : s'.size ≡ s.size
  pub adds : Adds s (λ y. (first ≤ y) × (y < next)) s'

pub filled-none : (s : Numbers) (first : ℕ) → Filled s first first s
filled-none s first = record {
  size = refl;
  adds = λ y. (
    λ h. inl h,
    λ h. elim h [
      | inl before ↦ before
      | inr range ↦ absurd (omega (arith, range.0, range.1))
    ],
  );
}

pub filled-next : (s s' s'' : Numbers) (first x : ℕ) → Filled s first x s' → first ≤ x → s''.size ≡ s'.size → Adds s' (λ y. y ≡ x) s'' → Filled s first (x + 1) s''
filled-next s s' s'' first x h le size added = record {
  size = size ∙ h.size;
  adds = λ y. (
    λ here. elim ((added y).0 here) [
      | inl before ↦ elim ((h.adds y).0 before) [
        | inl first_ ↦ inl first_
        | inr range ↦ inr (range.0, omega (arith, range.1))
      ]
      | inr same ↦ inr (omega arith, omega arith)
    ],
    λ there. elim there [
      | inl before ↦ (added y).1 (inl ((h.adds y).1 (inl before)))
      | inr range ↦ elim (cases_eq y x) [
        | inl same ↦ (added y).1 (inr same)
        | inr ne ↦ (added y).1 (inl ((h.adds y).1 (inr (range.0, omega (arith, range.1)))))
      ]
    ],
  );
}

-- ---- numbers whose bits stand in one word

-- the bits from one on, below another
abbrev pub run_mask : ℕ → ℕ → ℕ
run_mask k n = bit_and ((2 ^ 32 - 1) * 2 ^ k % 2 ^ 32) ((2 ^ 32 - 1) / 2 ^ (32 - (k + n)))

bits_from : (k : ℕ) → k ≤ 32 → (2 ^ 32 - 1) * 2 ^ k % 2 ^ 32 ≡ 2 ^ 32 - 2 ^ k
bits_from k le = ones_shl 32 k le

bits_below : (h : ℕ) → h ≤ 32 → (2 ^ 32 - 1) / 2 ^ (32 - h) ≡ 2 ^ h - 1
bits_below h le =
    let within : 32 - h ≤ 32 = omega arith in
    let same : 32 - (32 - h) ≡ h = omega arith in
    ones_shr 32 (32 - h) within ∙ ap (λ n. 2 ^ n - 1) same

mask-bit : (k n i : ℕ) → k + n ≤ 32 → bit_at (run_mask k n) i ≡ min (bit_at (2 ^ 32 - 2 ^ k) i) (bit_at (2 ^ (k + n) - 1) i)
mask-bit k n i le =
    bit_at_and ((2 ^ 32 - 1) * 2 ^ k % 2 ^ 32) ((2 ^ 32 - 1) / 2 ^ (32 - (k + n))) i
    ∙ ap (λ a. min (bit_at a i) (bit_at ((2 ^ 32 - 1) / 2 ^ (32 - (k + n))) i)) (bits_from k (omega arith))
    ∙ ap (λ a. min (bit_at (2 ^ 32 - 2 ^ k) i) (bit_at a i)) (bits_below (k + n) le)

mask-inside : (k n i : ℕ) → k + n ≤ 32 → k ≤ i → i < k + n → bit_at (run_mask k n) i ≡ 1
mask-inside k n i le low high =
    let below : i < 32 = omega arith in
    let one = bit_at_mask_inside k 32 i low below in
    let two = bit_at_ones (k + n) i high in
    mask-bit k n i le ∙ ap (λ a. min a (bit_at (2 ^ (k + n) - 1) i)) one ∙ ap (min 1) two

mask-below : (k n i : ℕ) → k + n ≤ 32 → i < k → bit_at (run_mask k n) i ≡ 0
mask-below k n i le less =
    let none = bit_at_mask_below k 32 i less in
    let least : min 0 (bit_at (2 ^ (k + n) - 1) i) ≡ 0 = omega arith in
    mask-bit k n i le ∙ ap (λ a. min a (bit_at (2 ^ (k + n) - 1) i)) none ∙ least

mask-above : (k n i : ℕ) → k + n ≤ 32 → k + n ≤ i → bit_at (run_mask k n) i ≡ 0
mask-above k n i le past =
    let none = bit_at_ones_above (k + n) i past in
    let least : min (bit_at (2 ^ 32 - 2 ^ k) i) 0 ≡ 0 = omega arith in
    mask-bit k n i le ∙ ap (min (bit_at (2 ^ 32 - 2 ^ k) i)) none ∙ least

abbrev pub put_run : Numbers → ℕ → ℕ → ℕ → Numbers
put_run s x n w = record { size = s.size; words = slice_set s.words (x / 32) (bit_or w (run_mask (x % 32) n)) }

-- a number of this word, by the bit of the mask
same-word : (s : Numbers) (x n w y : ℕ) → x / 32 < length s.words → y / 32 ≡ x / 32 → bit_at (slice_index (put_run s x n w).words (y / 32)) (y % 32) ≡ max (bit_at w (y % 32)) (bit_at (run_mask (x % 32) n) (y % 32))
same-word s x n w y inside same =
    ap (λ v. bit_at v (y % 32)) (ap (slice_index (put_run s x n w).words) same ∙ get_or-set_same s.words (x / 32) (bit_or w (run_mask (x % 32) n)) 0 inside)
    ∙ bit_at_or w (run_mask (x % 32) n) (y % 32)

run-in : (s : Numbers) (x n w y : ℕ) → x / 32 < length s.words → x % 32 + n ≤ 32 → x ≤ y → y < x + n → has (put_run s x n w) y ≡ true
run-in s x n w y inside fits low high =
    let same : y / 32 ≡ x / 32 = omega arith in
    let from : x % 32 ≤ y % 32 = omega arith in
    let to : y % 32 < x % 32 + n = omega arith in
    let bit : bit_at w (y % 32) < 2 = bit_at-lt w (y % 32) in
    let most : max (bit_at w (y % 32)) 1 ≡ 1 = omega arith in
    test-same _ 1 (same-word s x n w y inside same ∙ ap (max (bit_at w (y % 32))) (mask-inside (x % 32) n (y % 32) fits from to) ∙ most)

run-word : (s : Numbers) (x n w y : ℕ) → x / 32 < length s.words → w ≡ slice_index s.words (x / 32) → y / 32 ≡ x / 32 → bit_at (run_mask (x % 32) n) (y % 32) ≡ 0 → has (put_run s x n w) y ≡ has s y
run-word s x n w y inside at same none =
    let least : max (bit_at w (y % 32)) 0 ≡ bit_at w (y % 32) = omega arith in
    test-same _ _ (same-word s x n w y inside same ∙ ap (max (bit_at w (y % 32))) none ∙ least ∙ ap (λ v. bit_at v (y % 32)) (at ∙ ap (slice_index s.words) (sym same)))

run-out : (s : Numbers) (x n w y : ℕ) → x / 32 < length s.words → w ≡ slice_index s.words (x / 32) → x % 32 + n ≤ 32 → (x ≤ y → y < x + n → ⊥) → has (put_run s x n w) y ≡ has s y
run-out s x n w y inside at fits out = elim (cases_eq (y / 32) (x / 32)) [
  | inl same ↦ elim (cases_lt (y % 32) (x % 32)) [
    | inl less ↦ run-word s x n w y inside at same (mask-below (x % 32) n (y % 32) fits less)
    | inr from ↦ elim (cases_lt (y % 32) (x % 32 + n)) [
      | inl to ↦ (let low : x ≤ y = omega arith in let high : y < x + n = omega arith in absurd (out low high))
      | inr past ↦ run-word s x n w y inside at same (mask-above (x % 32) n (y % 32) fits past)
    ]
  ]
  | inr other ↦ test-same _ _ (ap (λ v. bit_at v (y % 32)) (get_or-set_other s.words (x / 32) (y / 32) (bit_or w (run_mask (x % 32) n)) 0 other))
]

pub run-adds : (s : Numbers) (x n w : ℕ) → x / 32 < length s.words → w ≡ slice_index s.words (x / 32) → x % 32 + n ≤ 32 → Adds s (λ y. (x ≤ y) × (y < x + n)) (put_run s x n w)
run-adds s x n w inside at fits = λ y. elim (cases_lt y x) [
  | inl less ↦ outside y (λ low high. omega arith)
  | inr low ↦ elim (cases_lt y (x + n)) [
    | inl high ↦ (λ _. inr (low, high), λ _. run-in s x n w y inside fits low high)
    | inr past ↦ outside y (λ low' high. omega arith)
  ]
]
  where
    outside : (y : ℕ) → (x ≤ y → y < x + n → ⊥) → (has (put_run s x n w) y ≡ true) ↔ ((has s y ≡ true) ⊎ ((x ≤ y) × (y < x + n)))
    outside y out = (
      λ h. inl (sym (run-out s x n w y inside at fits out) ∙ h),
      λ h. elim h [
        | inl before ↦ run-out s x n w y inside at fits out ∙ before
        | inr range ↦ absurd (out range.0 range.1)
      ],
    )

pub run-numbers : (s : Numbers) (x n w : ℕ) → AreNumbers s → x + n ≤ s.size → x / 32 < length s.words → w ≡ slice_index s.words (x / 32) → x % 32 + n ≤ 32 → AreNumbers (put_run s x n w)
run-numbers s x n w h less inside at fits = record {
  room = let same : length (put_run s x n w).words ≡ length s.words = length-set s.words (x / 32) (bit_or w (run_mask (x % 32) n)) in omega (arith, h.room);
  below = λ y past. run-out s x n w y inside at fits (λ low high. omega arith) ∙ h.below y past;
}
