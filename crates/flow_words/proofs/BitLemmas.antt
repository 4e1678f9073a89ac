-- The bits of operations by those of their operands.
use Rattle.std.proofs.Common.{◌≡◌, ℕ, suc, ◌+◌, ◌-◌, ◌*◌, ◌/◌, ◌%◌, ◌^◌, ◌<◌, ◌≤◌, min, max, Bool, true, false, nat_eq, ◌&&◌, ◌||◌, bit_and, refl, sym, ap, subst, ◌∙◌, ⊎_elim, if◌then◌else◌, arith}
use Rattle.std.specs.Int.{bit_at}
use Rattle.std.proofs.lemmas.Bool.{and_parts, or_cases, false≢true, eqb-true}
use Rattle.std.proofs.lemmas.Nat.{pow_pos, shr-shr, shr_split, or_disjoint, or_lt, shr_below}
use Rattle.std.proofs.lemmas.Nat.Bits.{bit_at_and, bit_at_or, bit_at-lt, bit_at-zero, bit_at_above, bit_at_cat_low, bit_at_cat_high, bit_at_lowest, same_from_bits_below}
use Rattle.std.specs.Int.Bits.{and_lt}
use Rattle.nv_base.specs.Words.{IsWord, Env, word, shifted_left, shifted_right, rotated_left}
use Rattle.nv_base.proofs.Rotation.{joined, comes_round}
use Rattle.flow_words.specs.declared.bits.Bit.{Bit}
use Rattle.flow_words.specs.declared.bits.Bit.TheVariants.{Unknown, Zero, One, Of, Flipped}
use Rattle.flow_words.specs.Bits.{IsBit, flipped, is_zero, is_one, is_same, common, either, differing}

-- ---- one bit

bit-one : (w i : ℕ) → bit_at w i < 2
bit-one w i = bit_at-lt w i

pub pick : (c : Bool) (P : Bit → Type 0) (x y : Bit) → (c ≡ true → P x) → (c ≡ false → P y) → P (if c then x else y)
pick true P x y f g = f refl
pick false P x y f g = g refl

pub bit_moved : (env : Env) (w r i j : ℕ) (b : Bit) → bit_at r j ≡ bit_at w i → IsBit env w i b → IsBit env r j b
bit_moved env w r i j Unknown e h = tt
bit_moved env w r i j Zero e h = e ∙ h
bit_moved env w r i j One e h = e ∙ h
bit_moved env w r i j (Of x k) e h = e ∙ h
bit_moved env w r i j (Flipped x k) e h = e ∙ h

pub bit_flipped : (env : Env) (w r i : ℕ) (b : Bit) → bit_at r i ≡ 1 - bit_at w i → IsBit env w i b → IsBit env r i (flipped b)
bit_flipped env w r i Unknown e h = tt
bit_flipped env w r i Zero e h = let f : 1 - bit_at w i ≡ 1 = omega (arith, h) in e ∙ f
bit_flipped env w r i One e h = let f : 1 - bit_at w i ≡ 0 = omega (arith, h) in e ∙ f
bit_flipped env w r i (Of x k) e h = e ∙ ap (λ v. 1 - v) h
bit_flipped env w r i (Flipped x k) e h =
    let lt = bit-one (env x) k in
    let f : 1 - (1 - bit_at (env x) k) ≡ bit_at (env x) k = omega (arith, lt) in
    e ∙ ap (λ v. 1 - v) h ∙ f

pub zero_bit : (env : Env) (w i : ℕ) (b : Bit) → is_zero b ≡ true → IsBit env w i b → bit_at w i ≡ 0
zero_bit env w i Zero e h = h
zero_bit env w i Unknown e h = absurd (false≢true e)
zero_bit env w i One e h = absurd (false≢true e)
zero_bit env w i (Of x k) e h = absurd (false≢true e)
zero_bit env w i (Flipped x k) e h = absurd (false≢true e)

one_bit : (env : Env) (w i : ℕ) (b : Bit) → is_one b ≡ true → IsBit env w i b → bit_at w i ≡ 1
one_bit env w i One e h = h
one_bit env w i Unknown e h = absurd (false≢true e)
one_bit env w i Zero e h = absurd (false≢true e)
one_bit env w i (Of x k) e h = absurd (false≢true e)
one_bit env w i (Flipped x k) e h = absurd (false≢true e)

bit_of_same : (env : Env) (x y j k : ℕ) → (nat_eq x y && nat_eq j k) ≡ true → bit_at (env x) j ≡ bit_at (env y) k
bit_of_same env x y j k e =
    let parts = and_parts (nat_eq x y) (nat_eq j k) e in
    ap (λ z. bit_at (env z) j) (eqb-true x y parts.0) ∙ ap (bit_at (env y)) (eqb-true j k parts.1)

pub same_bit : (env : Env) (w v i j : ℕ) (a b : Bit) → is_same a b ≡ true → IsBit env w i a → IsBit env v j b → bit_at w i ≡ bit_at v j
same_bit env w v i j Zero b e h g = h ∙ sym (zero_bit env v j b e g)
same_bit env w v i j One b e h g = h ∙ sym (one_bit env v j b e g)
same_bit env w v i j (Of x k) (Of y l) e h g = h ∙ bit_of_same env x y k l e ∙ sym g
same_bit env w v i j (Of x k) Unknown e h g = absurd (false≢true e)
same_bit env w v i j (Of x k) Zero e h g = absurd (false≢true e)
same_bit env w v i j (Of x k) One e h g = absurd (false≢true e)
same_bit env w v i j (Of x k) (Flipped y l) e h g = absurd (false≢true e)
same_bit env w v i j (Flipped x k) (Flipped y l) e h g = h ∙ ap (λ z. 1 - z) (bit_of_same env x y k l e) ∙ sym g
same_bit env w v i j (Flipped x k) Unknown e h g = absurd (false≢true e)
same_bit env w v i j (Flipped x k) Zero e h g = absurd (false≢true e)
same_bit env w v i j (Flipped x k) One e h g = absurd (false≢true e)
same_bit env w v i j (Flipped x k) (Of y l) e h g = absurd (false≢true e)
same_bit env w v i j Unknown b e h g = absurd (false≢true e)

-- ---- two bits

pub common_bit : (env : Env) (w v r i : ℕ) (a b : Bit) → bit_at r i ≡ min (bit_at w i) (bit_at v i) → IsBit env w i a → IsBit env v i b → IsBit env r i (common a b)
common_bit env w v r i a b e h g =
    let lw = bit-one w i in
    let lv = bit-one v i in
    pick (is_zero a || is_zero b) (IsBit env r i) Zero _
    (λ z. ⊎_elim (λ p. let k = zero_bit env w i a p h in let f : min (bit_at w i) (bit_at v i) ≡ 0 = omega (arith, k) in e ∙ f) (λ p. let k = zero_bit env v i b p g in let f : min (bit_at w i) (bit_at v i) ≡ 0 = omega (arith, k) in e ∙ f) (or_cases (is_zero a) (is_zero b) z))
    (λ z. pick (is_one a) (IsBit env r i) b _
    (λ p. let k = one_bit env w i a p h in let f : min (bit_at w i) (bit_at v i) ≡ bit_at v i = omega (arith, k, lv) in bit_moved env v r i i b (e ∙ f) g)
    (λ q. pick (is_one b || is_same a b) (IsBit env r i) a Unknown
    (λ p. let f : min (bit_at w i) (bit_at v i) ≡ bit_at w i = ⊎_elim (λ o. let k = one_bit env v i b o g in let t : min (bit_at w i) (bit_at v i) ≡ bit_at w i = omega (arith, k, lw) in t) (λ s. let k = same_bit env w v i i a b s h g in let t : min (bit_at w i) (bit_at v i) ≡ bit_at w i = omega (arith, k) in t) (or_cases (is_one b) (is_same a b) p) in bit_moved env w r i i a (e ∙ f) h)
    (λ p. tt)))

pub either_bit : (env : Env) (w v r i : ℕ) (a b : Bit) → bit_at r i ≡ max (bit_at w i) (bit_at v i) → IsBit env w i a → IsBit env v i b → IsBit env r i (either a b)
either_bit env w v r i a b e h g =
    let lw = bit-one w i in
    let lv = bit-one v i in
    pick (is_zero a) (IsBit env r i) b _
    (λ p. let k = zero_bit env w i a p h in let f : max (bit_at w i) (bit_at v i) ≡ bit_at v i = omega (arith, k) in bit_moved env v r i i b (e ∙ f) g)
    (λ z. pick (is_zero b || is_same a b) (IsBit env r i) a _
    (λ p. let f : max (bit_at w i) (bit_at v i) ≡ bit_at w i = ⊎_elim (λ o. let k = zero_bit env v i b o g in let t : max (bit_at w i) (bit_at v i) ≡ bit_at w i = omega (arith, k) in t) (λ s. let k = same_bit env w v i i a b s h g in let t : max (bit_at w i) (bit_at v i) ≡ bit_at w i = omega (arith, k) in t) (or_cases (is_zero b) (is_same a b) p) in bit_moved env w r i i a (e ∙ f) h)
    (λ q. pick (is_one a || is_one b) (IsBit env r i) One Unknown
    (λ p. let f : max (bit_at w i) (bit_at v i) ≡ 1 = ⊎_elim (λ o. let k = one_bit env w i a o h in let t : max (bit_at w i) (bit_at v i) ≡ 1 = omega (arith, k, lv) in t) (λ o. let k = one_bit env v i b o g in let t : max (bit_at w i) (bit_at v i) ≡ 1 = omega (arith, k, lw) in t) (or_cases (is_one a) (is_one b) p) in e ∙ f)
    (λ p. tt)))

pub differing_bit : (env : Env) (w v r i : ℕ) (a b : Bit) → bit_at r i ≡ (bit_at w i + bit_at v i) % 2 → IsBit env w i a → IsBit env v i b → IsBit env r i (differing a b)
differing_bit env w v r i a b e h g =
    let lw = bit-one w i in
    let lv = bit-one v i in
    pick (is_zero a) (IsBit env r i) b _
    (λ p. let k = zero_bit env w i a p h in let f : (bit_at w i + bit_at v i) % 2 ≡ bit_at v i = omega (arith, k, lv) in bit_moved env v r i i b (e ∙ f) g)
    (λ z. pick (is_zero b) (IsBit env r i) a _
    (λ p. let k = zero_bit env v i b p g in let f : (bit_at w i + bit_at v i) % 2 ≡ bit_at w i = omega (arith, k, lw) in bit_moved env w r i i a (e ∙ f) h)
    (λ q. pick (is_one a) (IsBit env r i) (flipped b) _
    (λ p. let k = one_bit env w i a p h in let f : (bit_at w i + bit_at v i) % 2 ≡ 1 - bit_at v i = omega (arith, k, lv) in bit_flipped env v r i b (e ∙ f) g)
    (λ s. pick (is_one b) (IsBit env r i) (flipped a) _
    (λ p. let k = one_bit env v i b p g in let f : (bit_at w i + bit_at v i) % 2 ≡ 1 - bit_at w i = omega (arith, k, lw) in bit_flipped env w r i a (e ∙ f) h)
    (λ t. pick (is_same a b) (IsBit env r i) Zero Unknown
    (λ p. let k = same_bit env w v i i a b p h g in let f : (bit_at w i + bit_at v i) % 2 ≡ 0 = omega (arith, k, lw) in e ∙ f)
    (λ p. tt)))))

-- ---- words

pub word_bit : (n i : ℕ) → i < 32 → bit_at (word n) i ≡ bit_at n i
word_bit n i lt =
    let split : n / 2 ^ 32 * 2 ^ 32 + word n ≡ n = shr_split n 32 in
    sym (bit_at_cat_low (n / 2 ^ 32) 32 (word n) i lt) ∙ ap (λ m. bit_at m i) split

pub left_low : (k x i : ℕ) → i < 32 → i < k → bit_at (shifted_left k x) i ≡ 0
left_low k x i lt less =
    let none : x * 2 ^ k + 0 ≡ x * 2 ^ k = omega arith in
    word_bit (x * 2 ^ k) i lt ∙ ap (λ m. bit_at m i) (sym none) ∙ bit_at_cat_low x k 0 i less ∙ bit_at-zero i

pub left_high : (k x i : ℕ) → i < 32 → k ≤ i → bit_at (shifted_left k x) i ≡ bit_at x (i - k)
left_high k x i lt le =
    let none : x * 2 ^ k + 0 ≡ x * 2 ^ k = omega arith in
    word_bit (x * 2 ^ k) i lt ∙ ap (λ m. bit_at m i) (sym none) ∙ bit_at_cat_high x k 0 i (pow_pos k) le

pub right_bit : (k x i : ℕ) → bit_at (shifted_right k x) i ≡ bit_at x (i + k)
right_bit k x i = let e : k + i ≡ i + k = omega arith in ap (λ m. m % 2) (shr-shr x k i) ∙ ap (bit_at x) e

pub right_above : (k x i : ℕ) → IsWord x → 32 ≤ i + k → bit_at (shifted_right k x) i ≡ 0
right_above k x i fits le = right_bit k x i ∙ bit_at_above x 32 (i + k) fits le

pub turned_high : (k x i : ℕ) → IsWord x → i < 32 → k ≤ 32 → k ≤ i → bit_at (rotated_left k x) i ≡ bit_at x (i - k)
turned_high k x i fits lt most le =
    let up = left_high k x i lt le in
    let round = bit_at_above (x / 2 ^ (32 - k)) k i (comes_round x k fits most) le in
    let both : max (bit_at x (i - k)) 0 ≡ bit_at x (i - k) = omega arith in
    ap (λ m. bit_at m i) (sym (joined x k fits most)) ∙ bit_at_or (shifted_left k x) (x / 2 ^ (32 - k)) i ∙ ap (λ m. max m (bit_at (x / 2 ^ (32 - k)) i)) up ∙ ap (max (bit_at x (i - k))) round ∙ both

pub turned_low : (k x i : ℕ) → IsWord x → i < 32 → k ≤ 32 → i < k → bit_at (rotated_left k x) i ≡ bit_at x (i + (32 - k))
turned_low k x i fits lt most less =
    let up = left_low k x i lt less in
    let round = right_bit (32 - k) x i in
    let both : max 0 (bit_at x (i + (32 - k))) ≡ bit_at x (i + (32 - k)) = omega arith in
    ap (λ m. bit_at m i) (sym (joined x k fits most)) ∙ bit_at_or (shifted_left k x) (x / 2 ^ (32 - k)) i ∙ ap (λ m. max m (bit_at (x / 2 ^ (32 - k)) i)) up ∙ ap (max 0) round ∙ both

-- ---- sums

-- numbers without a common bit below a place have no carry into it
parted : (x y j i : ℕ) → j < i → min (bit_at x j) (bit_at y j) ≡ 0 → bit_at (bit_and (x % 2 ^ i) (y % 2 ^ i)) j ≡ 0
parted x y j i lt h =
    let low : (n : ℕ) → bit_at (n % 2 ^ i) j ≡ bit_at n j = λ n. sym (bit_at_cat_low (n / 2 ^ i) i (n % 2 ^ i) j lt) ∙ ap (λ m. bit_at m j) (shr_split n i) in
    bit_at_and (x % 2 ^ i) (y % 2 ^ i) j ∙ ap (λ m. min m (bit_at (y % 2 ^ i) j)) (low x) ∙ ap (min (bit_at x j)) (low y) ∙ h

mod_less : (n i : ℕ) → n % 2 ^ i < 2 ^ i
mod_less n i = let p = pow_pos i in grind arith

pub free_sum : (x y i : ℕ) → ((j : ℕ) → j < i → min (bit_at x j) (bit_at y j) ≡ 0) → bit_at (x + y) i ≡ (bit_at x i + bit_at y i) % 2
free_sum x y i h =
    let r = x % 2 ^ i in
    let s = y % 2 ^ i in
    let lr = mod_less x i in
    let ls = mod_less y i in
    let apart : bit_and r s ≡ 0 = same_from_bits_below i (bit_and r s) 0 (and_less r s i lr ls) (pow_pos i) (λ j lt. parted x y j i lt (h j lt) ∙ sym (bit_at-zero j)) in
    let sum : r + s < 2 ^ i = subst (λ m. m < 2 ^ i) (or_disjoint r s apart) (or_lt i r s lr ls) in
    let ex = shr_split x i in
    let ey = shr_split y i in
    let whole : x + y ≡ (x / 2 ^ i + y / 2 ^ i) * 2 ^ i + (r + s) = grind (arith, ex, ey) in
    ap (λ m. bit_at m i) whole ∙ bit_at_cat_high (x / 2 ^ i + y / 2 ^ i) i (r + s) i sum (omega arith) ∙ halves (x / 2 ^ i) (y / 2 ^ i) (i - i) (omega arith)
  where
    and_less : (r s i : ℕ) → r < 2 ^ i → s < 2 ^ i → bit_and r s < 2 ^ i
    and_less r s i p q = and_lt i r s p q

    parity : (p q : ℕ) → (p + q) % 2 ≡ (p % 2 + q % 2) % 2
    parity p q = omega arith

    halves : (p q k : ℕ) → k ≡ 0 → bit_at (p + q) k ≡ (p % 2 + q % 2) % 2
    halves p q k e = ap (bit_at (p + q)) e ∙ bit_at_lowest (p + q) ∙ parity p q

-- a word without bits from a place on is below its power
pub below_from : (t x : ℕ) → t ≤ 32 → IsWord x → ((j : ℕ) → t ≤ j → j < 32 → bit_at x j ≡ 0) → x < 2 ^ t
below_from t x le fits h =
    let whole : t + (32 - t) ≡ 32 = omega arith in
    let high : x / 2 ^ t < 2 ^ (32 - t) = shr_below x (32 - t) t (subst (λ m. x < 2 ^ m) (sym (let e : 32 - t + t ≡ 32 = omega arith in e)) fits) in
    let none : x / 2 ^ t ≡ 0 = same_from_bits_below (32 - t) (x / 2 ^ t) 0 high (pow_pos (32 - t)) (λ j lt. right_bit t x j ∙ h (j + t) (omega arith) (omega arith) ∙ sym (bit_at-zero j)) in
    let split = shr_split x t in
    let less = mod_less x t in
    let plain : x % 2 ^ t ≡ 0 * 2 ^ t + x % 2 ^ t = omega arith in
    let e : x % 2 ^ t ≡ x = plain ∙ ap (λ m. m * 2 ^ t + x % 2 ^ t) (sym none) ∙ split in
    subst (λ m. m < 2 ^ t) e less

pub above_sum : (t x y i : ℕ) → t < i → x < 2 ^ t → y < 2 ^ t → bit_at (x + y) i ≡ 0
above_sum t x y i lt p q =
    let two : 2 ^ suc t ≡ 2 ^ t + 2 ^ t = grind arith in
    bit_at_above (x + y) (suc t) i (omega (arith, two, p, q)) (omega arith)
