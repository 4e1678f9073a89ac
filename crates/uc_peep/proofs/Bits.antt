-- Bits of sets.
use Rattle.std.proofs.Common.{◌≡◌, ℕ, zero, suc, ◌+◌, ◌-◌, ◌*◌, ◌%◌, ◌^◌, ◌<◌, ◌≤◌, ◌⊎◌, inl, inr, ⊎_elim, Bool, true, false, not, ◌||◌, ◌&&◌, nat_eq, min, max, bit_and, bit_or, lit<, ne_eqb, lt-ltb, le-ltb, le-leb, refl, sym, ap, ◌∙◌, arith, eqb-true, eq-eqb}
use Rattle.std.specs.Prelude.{nat_le, nat_lt}
use Rattle.std.proofs.lemmas.Bool.{cases_eq, cases_lt, lt-leb}
use Rattle.std.specs.Int.{bit_at, bit_not, w128}
use Rattle.std.proofs.Math.Nat.{mod-eq_of_lt}
use Rattle.std.proofs.Math.Pow.{pow-lt}
use Rattle.std.proofs.lemmas.Nat.Bits.{bit_at_or, bit_at_and, bit_at_not, bit_at-lt, bit_at-pow_same, bit_at-pow_other, bit_at_mask_below, bit_at_mask_inside, bit_at_mask_above}
use Rattle.uc_isa.specs.Registers.{IsRegister, Register}
use Rattle.uc_isa.specs.Registers.Register.{InA, InB, InL, InLD, InS, InSD}
use Rattle.uc_peep.specs.Sets.{has}
use Rattle.uc_isa.specs.Resources.{IsResource, Resource, is_carry, is_flag, is_register, is_run_of_a, is_run_of_l, is_run_of_ld, is_run_of_s, is_run_of_sd, is_within, is_zero, number}
use Rattle.uc_isa.specs.Resources.Resource.{Carry, In, Zero}

below-two : (x : ℕ) → x < 2 → (x ≡ 0) ⊎ (x ≡ 1)
below-two zero h = inl refl
below-two (suc zero) h = inr refl
below-two (suc (suc x)) h = absurd (omega arith)

max-test : (x y : ℕ) → (x ≡ 0) ⊎ (x ≡ 1) → (y ≡ 0) ⊎ (y ≡ 1) → nat_eq (max x y) 1 ≡ (nat_eq x 1 || nat_eq y 1)
max-test x y (inl a) (inl b) = ap (λ n. nat_eq (max n y) 1) a ∙ ap (λ n. nat_eq (max 0 n) 1) b ∙ sym (ap (λ n. nat_eq n 1 || nat_eq y 1) a ∙ ap (λ n. nat_eq n 1) b)
max-test x y (inl a) (inr b) = ap (λ n. nat_eq (max n y) 1) a ∙ ap (λ n. nat_eq (max 0 n) 1) b ∙ sym (ap (λ n. nat_eq n 1 || nat_eq y 1) a ∙ ap (λ n. nat_eq n 1) b)
max-test x y (inr a) (inl b) = ap (λ n. nat_eq (max n y) 1) a ∙ ap (λ n. nat_eq (max 1 n) 1) b ∙ sym (ap (λ n. nat_eq n 1 || nat_eq y 1) a)
max-test x y (inr a) (inr b) = ap (λ n. nat_eq (max n y) 1) a ∙ ap (λ n. nat_eq (max 1 n) 1) b ∙ sym (ap (λ n. nat_eq n 1 || nat_eq y 1) a)

min-test : (x y : ℕ) → (x ≡ 0) ⊎ (x ≡ 1) → (y ≡ 0) ⊎ (y ≡ 1) → nat_eq (min x y) 1 ≡ (nat_eq x 1 && nat_eq y 1)
min-test x y (inl a) (inl b) = ap (λ n. nat_eq (min n y) 1) a ∙ ap (λ n. nat_eq (min 0 n) 1) b ∙ sym (ap (λ n. nat_eq n 1 && nat_eq y 1) a)
min-test x y (inl a) (inr b) = ap (λ n. nat_eq (min n y) 1) a ∙ ap (λ n. nat_eq (min 0 n) 1) b ∙ sym (ap (λ n. nat_eq n 1 && nat_eq y 1) a)
min-test x y (inr a) (inl b) = ap (λ n. nat_eq (min n y) 1) a ∙ ap (λ n. nat_eq (min 1 n) 1) b ∙ sym (ap (λ n. nat_eq n 1 && nat_eq y 1) a ∙ ap (λ n. nat_eq n 1) b)
min-test x y (inr a) (inr b) = ap (λ n. nat_eq (min n y) 1) a ∙ ap (λ n. nat_eq (min 1 n) 1) b ∙ sym (ap (λ n. nat_eq n 1 && nat_eq y 1) a ∙ ap (λ n. nat_eq n 1) b)

not-test : (x y : ℕ) → (x ≡ 0) ⊎ (x ≡ 1) → y ≡ 1 - x → nat_eq y 1 ≡ not (nat_eq x 1)
not-test x y (inl a) e = ap (λ n. nat_eq n 1) (e ∙ ap (λ n. 1 - n) a) ∙ sym (ap (λ n. not (nat_eq n 1)) a)
not-test x y (inr a) e = ap (λ n. nat_eq n 1) (e ∙ ap (λ n. 1 - n) a) ∙ sym (ap (λ n. not (nat_eq n 1)) a)

module _ (a b : ℕ) where
  two : (i : ℕ) (n : ℕ) → (bit_at n i ≡ 0) ⊎ (bit_at n i ≡ 1)
  two i n = below-two (bit_at n i) (bit_at-lt n i)

  pub has-or : (s : Resource) → has (bit_or a b) s ≡ (has a s || has b s)
  has-or s = ap (λ n. nat_eq n 1) (bit_at_or a b (number s)) ∙ max-test _ _ (two (number s) a) (two (number s) b)

  pub has-and : (s : Resource) → has (bit_and a b) s ≡ (has a s && has b s)
  has-and s = ap (λ n. nat_eq n 1) (bit_at_and a b (number s)) ∙ min-test _ _ (two (number s) a) (two (number s) b)

pub number-below : (s : Resource) → IsResource s → number s < 66
number-below (In (InA k)) h = omega arith
number-below (In (InB k)) h = omega arith
number-below (In (InL k)) h = omega arith
number-below (In (InS k)) h = omega arith
number-below (In (InLD k)) h = omega arith
number-below (In (InSD k)) h = omega arith
number-below Zero h = lit< tt
number-below Carry h = lit< tt

pub has-not : (a : ℕ) → a < 2 ^ 128 → (s : Resource) → IsResource s → has (bit_not w128 a) s ≡ not (has a s)
has-not a fits s h = not-test (bit_at a (number s)) _ (below-two (bit_at a (number s)) (bit_at-lt a (number s))) (bit_at_not w128 a (number s) fits (let lt = number-below s h in omega arith))

pub has-pow : (k : ℕ) (s : Resource) → has (2 ^ k) s ≡ nat_eq (number s) k
has-pow k s = by (nat_eq (number s) k) refl
  where
    by : (t : Bool) → nat_eq (number s) k ≡ t → has (2 ^ k) s ≡ nat_eq (number s) k
    by true e = let same : number s ≡ k = eqb-true (number s) k e in ap (λ i. nat_eq (bit_at (2 ^ k) i) 1) same ∙ ap (λ n. nat_eq n 1) (bit_at-pow_same k) ∙ sym e
    by false e = ap (λ n. nat_eq n 1) (bit_at-pow_other k (number s) (λ same. Rattle.std.proofs.lemmas.Bool.false≢true (sym e ∙ eq-eqb (number s) k same))) ∙ sym e

pub one-bit : (k : ℕ) → k < 66 → 1 * 2 ^ k % 2 ^ 128 ≡ 2 ^ k
one-bit k h = let e : 1 * 2 ^ k ≡ 2 ^ k = omega arith in ap (λ n. n % 2 ^ 128) e ∙ mod-eq_of_lt (pow-lt {i = k} {j = 128} (omega arith))

and-second : (a b : Bool) → (a && b) ≡ true → b ≡ true
and-second true b h = h
and-second false true h = refl
and-second false false h = h

pub within-and : (a b : ℕ) → nat_eq (bit_and a b) a ≡ true → (s : Resource) → IsResource s → has a s ≡ true → has b s ≡ true
within-and a b same s h in_a = and-second (has a s) (has b s) (sym (has-and a b s) ∙ ap (λ n. has n s) (eqb-true (bit_and a b) a same) ∙ in_a)

-- ---- registers by their numbers

apart-numbers : (a b : ℕ) → ¬ (a ≡ b) → nat_eq a b ≡ false
apart-numbers a b h = ne_eqb a b h

shifted-eq : (n k j : ℕ) → nat_eq (n + k) (n + j) ≡ nat_eq k j
shifted-eq n k j = ⊎_elim (λ (e : k ≡ j). eq-eqb (n + k) (n + j) (omega arith) ∙ sym (eq-eqb k j e)) (λ (far : ¬ (k ≡ j)). ne_eqb (n + k) (n + j) (λ e. far (omega arith)) ∙ sym (ne_eqb k j far)) (cases_eq k j)

-- a register that is there is known by its number
pub register-number : (r : Register) (s : Resource) → IsRegister r → IsResource s → is_register r s ≡ nat_eq (number s) (number (In r))
register-number (InA k) (In (InA j)) h g = refl
register-number (InA k) (In (InB j)) h g = sym (apart-numbers _ _ (λ e. omega arith))
register-number (InA k) (In (InL j)) h g = sym (apart-numbers _ _ (λ e. omega arith))
register-number (InA k) (In (InS j)) h g = sym (apart-numbers _ _ (λ e. omega arith))
register-number (InA k) (In (InLD j)) h g = sym (apart-numbers _ _ (λ e. omega arith))
register-number (InA k) (In (InSD j)) h g = sym (apart-numbers _ _ (λ e. omega arith))
register-number (InA k) Zero h g = sym (apart-numbers _ _ (λ e. omega arith))
register-number (InA k) Carry h g = sym (apart-numbers _ _ (λ e. omega arith))
register-number (InB k) (In (InA j)) h g = sym (apart-numbers _ _ (λ e. omega arith))
register-number (InB k) (In (InB j)) h g = sym (shifted-eq 16 j k)
register-number (InB k) (In (InL j)) h g = sym (apart-numbers _ _ (λ e. omega arith))
register-number (InB k) (In (InS j)) h g = sym (apart-numbers _ _ (λ e. omega arith))
register-number (InB k) (In (InLD j)) h g = sym (apart-numbers _ _ (λ e. omega arith))
register-number (InB k) (In (InSD j)) h g = sym (apart-numbers _ _ (λ e. omega arith))
register-number (InB k) Zero h g = sym (apart-numbers _ _ (λ e. omega arith))
register-number (InB k) Carry h g = sym (apart-numbers _ _ (λ e. omega arith))
register-number (InL k) (In (InA j)) h g = sym (apart-numbers _ _ (λ e. omega arith))
register-number (InL k) (In (InB j)) h g = sym (apart-numbers _ _ (λ e. omega arith))
register-number (InL k) (In (InL j)) h g = sym (shifted-eq 32 j k)
register-number (InL k) (In (InS j)) h g = sym (apart-numbers _ _ (λ e. omega arith))
register-number (InL k) (In (InLD j)) h g = sym (apart-numbers _ _ (λ e. omega arith))
register-number (InL k) (In (InSD j)) h g = sym (apart-numbers _ _ (λ e. omega arith))
register-number (InL k) Zero h g = sym (apart-numbers _ _ (λ e. omega arith))
register-number (InL k) Carry h g = sym (apart-numbers _ _ (λ e. omega arith))
register-number (InS k) (In (InA j)) h g = sym (apart-numbers _ _ (λ e. omega arith))
register-number (InS k) (In (InB j)) h g = sym (apart-numbers _ _ (λ e. omega arith))
register-number (InS k) (In (InL j)) h g = sym (apart-numbers _ _ (λ e. omega arith))
register-number (InS k) (In (InS j)) h g = sym (shifted-eq 40 j k)
register-number (InS k) (In (InLD j)) h g = sym (apart-numbers _ _ (λ e. omega arith))
register-number (InS k) (In (InSD j)) h g = sym (apart-numbers _ _ (λ e. omega arith))
register-number (InS k) Zero h g = sym (apart-numbers _ _ (λ e. omega arith))
register-number (InS k) Carry h g = sym (apart-numbers _ _ (λ e. omega arith))
register-number (InLD k) (In (InA j)) h g = sym (apart-numbers _ _ (λ e. omega arith))
register-number (InLD k) (In (InB j)) h g = sym (apart-numbers _ _ (λ e. omega arith))
register-number (InLD k) (In (InL j)) h g = sym (apart-numbers _ _ (λ e. omega arith))
register-number (InLD k) (In (InS j)) h g = sym (apart-numbers _ _ (λ e. omega arith))
register-number (InLD k) (In (InLD j)) h g = sym (shifted-eq 48 j k)
register-number (InLD k) (In (InSD j)) h g = sym (apart-numbers _ _ (λ e. omega arith))
register-number (InLD k) Zero h g = sym (apart-numbers _ _ (λ e. omega arith))
register-number (InLD k) Carry h g = sym (apart-numbers _ _ (λ e. omega arith))
register-number (InSD k) (In (InA j)) h g = sym (apart-numbers _ _ (λ e. omega arith))
register-number (InSD k) (In (InB j)) h g = sym (apart-numbers _ _ (λ e. omega arith))
register-number (InSD k) (In (InL j)) h g = sym (apart-numbers _ _ (λ e. omega arith))
register-number (InSD k) (In (InS j)) h g = sym (apart-numbers _ _ (λ e. omega arith))
register-number (InSD k) (In (InLD j)) h g = sym (apart-numbers _ _ (λ e. omega arith))
register-number (InSD k) (In (InSD j)) h g = sym (shifted-eq 56 j k)
register-number (InSD k) Zero h g = sym (apart-numbers _ _ (λ e. omega arith))
register-number (InSD k) Carry h g = sym (apart-numbers _ _ (λ e. omega arith))

pub zero-number : (s : Resource) → IsResource s → is_zero s ≡ nat_eq (number s) 64
zero-number (In (InA k)) h = sym (apart-numbers _ _ (λ e. omega arith))
zero-number (In (InB k)) h = sym (apart-numbers _ _ (λ e. omega arith))
zero-number (In (InL k)) h = sym (apart-numbers _ _ (λ e. omega arith))
zero-number (In (InS k)) h = sym (apart-numbers _ _ (λ e. omega arith))
zero-number (In (InLD k)) h = sym (apart-numbers _ _ (λ e. omega arith))
zero-number (In (InSD k)) h = sym (apart-numbers _ _ (λ e. omega arith))
zero-number Zero h = refl
zero-number Carry h = refl

pub carry-number : (s : Resource) → IsResource s → is_carry s ≡ nat_eq (number s) 65
carry-number (In (InA k)) h = sym (apart-numbers _ _ (λ e. omega arith))
carry-number (In (InB k)) h = sym (apart-numbers _ _ (λ e. omega arith))
carry-number (In (InL k)) h = sym (apart-numbers _ _ (λ e. omega arith))
carry-number (In (InS k)) h = sym (apart-numbers _ _ (λ e. omega arith))
carry-number (In (InLD k)) h = sym (apart-numbers _ _ (λ e. omega arith))
carry-number (In (InSD k)) h = sym (apart-numbers _ _ (λ e. omega arith))
carry-number Zero h = refl
carry-number Carry h = refl

pub flag-either : (s : Resource) → is_flag s ≡ (is_zero s || is_carry s)
flag-either (In r) = refl
flag-either Zero = refl
flag-either Carry = refl

-- a run of one bank, by numbers
within-shifted : (n r c k : ℕ) → is_within (n + r) c (n + k) ≡ is_within r c k
within-shifted n r c k = ap (λ t. t && nat_lt (n + k) (n + r + c)) (shifted-le n r k) ∙ ap (λ t. nat_le r k && nat_lt (n + k) t) (let e : n + r + c ≡ n + (r + c) = omega arith in e) ∙ ap (λ t. nat_le r k && t) (shifted-lt n k (r + c))
  where
    shifted-le : (n a b : ℕ) → nat_le (n + a) (n + b) ≡ nat_le a b
    shifted-le n a b = ⊎_elim (λ (lt : b < a). lt-leb (n + a) (n + b) (omega arith) ∙ sym (lt-leb a b lt)) (λ (le : a ≤ b). le-leb (n + a) (n + b) (omega arith) ∙ sym (le-leb a b le)) (cases_lt b a)

    shifted-lt : (n a b : ℕ) → nat_lt (n + a) (n + b) ≡ nat_lt a b
    shifted-lt n a b = ⊎_elim (λ (lt : a < b). lt-ltb (n + a) (n + b) (omega arith) ∙ sym (lt-ltb a b lt)) (λ (le : b ≤ a). le-ltb (n + a) (n + b) (omega arith) ∙ sym (le-ltb a b le)) (cases_lt a b)

within-below : (r c k : ℕ) → k < r → is_within r c k ≡ false
within-below r c k h = ap (λ t. t && nat_lt k (r + c)) (lt-leb r k h)

within-above : (r c k : ℕ) → r + c ≤ k → is_within r c k ≡ false
within-above r c k h = ap (λ t. nat_le r k && t) (le-ltb k (r + c) h) ∙ and-false (nat_le r k)
  where
    and-false : (b : Bool) → (b && false) ≡ false
    and-false true = refl
    and-false false = refl

pub run-a : (r c : ℕ) (s : Resource) → r + c ≤ 16 → IsResource s → is_run_of_a r c s ≡ is_within r c (number s)
run-a r c (In (InA k)) fits h = refl
run-a r c (In (InB k)) fits h = sym (within-above r c _ (omega arith))
run-a r c (In (InL k)) fits h = sym (within-above r c _ (omega arith))
run-a r c (In (InS k)) fits h = sym (within-above r c _ (omega arith))
run-a r c (In (InLD k)) fits h = sym (within-above r c _ (omega arith))
run-a r c (In (InSD k)) fits h = sym (within-above r c _ (omega arith))
run-a r c Zero fits h = sym (within-above r c _ (omega arith))
run-a r c Carry fits h = sym (within-above r c _ (omega arith))

pub run-l : (r c : ℕ) (s : Resource) → r + c ≤ 8 → IsResource s → is_run_of_l r c s ≡ is_within (32 + r) c (number s)
run-l r c (In (InA k)) fits h = sym (within-below (32 + r) c _ (omega arith))
run-l r c (In (InB k)) fits h = sym (within-below (32 + r) c _ (omega arith))
run-l r c (In (InL k)) fits h = sym (within-shifted 32 r c k)
run-l r c (In (InS k)) fits h = sym (within-above (32 + r) c _ (omega arith))
run-l r c (In (InLD k)) fits h = sym (within-above (32 + r) c _ (omega arith))
run-l r c (In (InSD k)) fits h = sym (within-above (32 + r) c _ (omega arith))
run-l r c Zero fits h = sym (within-above (32 + r) c _ (omega arith))
run-l r c Carry fits h = sym (within-above (32 + r) c _ (omega arith))

pub run-s : (r c : ℕ) (s : Resource) → r + c ≤ 8 → IsResource s → is_run_of_s r c s ≡ is_within (40 + r) c (number s)
run-s r c (In (InA k)) fits h = sym (within-below (40 + r) c _ (omega arith))
run-s r c (In (InB k)) fits h = sym (within-below (40 + r) c _ (omega arith))
run-s r c (In (InL k)) fits h = sym (within-below (40 + r) c _ (omega arith))
run-s r c (In (InS k)) fits h = sym (within-shifted 40 r c k)
run-s r c (In (InLD k)) fits h = sym (within-above (40 + r) c _ (omega arith))
run-s r c (In (InSD k)) fits h = sym (within-above (40 + r) c _ (omega arith))
run-s r c Zero fits h = sym (within-above (40 + r) c _ (omega arith))
run-s r c Carry fits h = sym (within-above (40 + r) c _ (omega arith))

pub run-ld : (r c : ℕ) (s : Resource) → r + c ≤ 8 → IsResource s → is_run_of_ld r c s ≡ is_within (48 + r) c (number s)
run-ld r c (In (InA k)) fits h = sym (within-below (48 + r) c _ (omega arith))
run-ld r c (In (InB k)) fits h = sym (within-below (48 + r) c _ (omega arith))
run-ld r c (In (InL k)) fits h = sym (within-below (48 + r) c _ (omega arith))
run-ld r c (In (InS k)) fits h = sym (within-below (48 + r) c _ (omega arith))
run-ld r c (In (InLD k)) fits h = sym (within-shifted 48 r c k)
run-ld r c (In (InSD k)) fits h = sym (within-above (48 + r) c _ (omega arith))
run-ld r c Zero fits h = sym (within-above (48 + r) c _ (omega arith))
run-ld r c Carry fits h = sym (within-above (48 + r) c _ (omega arith))

pub run-sd : (r c : ℕ) (s : Resource) → r + c ≤ 8 → IsResource s → is_run_of_sd r c s ≡ is_within (56 + r) c (number s)
run-sd r c (In (InA k)) fits h = sym (within-below (56 + r) c _ (omega arith))
run-sd r c (In (InB k)) fits h = sym (within-below (56 + r) c _ (omega arith))
run-sd r c (In (InL k)) fits h = sym (within-below (56 + r) c _ (omega arith))
run-sd r c (In (InS k)) fits h = sym (within-below (56 + r) c _ (omega arith))
run-sd r c (In (InLD k)) fits h = sym (within-below (56 + r) c _ (omega arith))
run-sd r c (In (InSD k)) fits h = sym (within-shifted 56 r c k)
run-sd r c Zero fits h = sym (within-above (56 + r) c _ (omega arith))
run-sd r c Carry fits h = sym (within-above (56 + r) c _ (omega arith))

-- the bits from r on, of which there are c
pub has-run : (r c : ℕ) (s : Resource) → has (2 ^ (r + c) - 2 ^ r) s ≡ is_within r c (number s)
has-run r c s = ⊎_elim
    (λ (lt : number s < r). ap (λ n. nat_eq n 1) (bit_at_mask_below r (r + c) (number s) lt) ∙ sym (within-below r c (number s) lt))
    (λ (le : r ≤ number s). ⊎_elim
    (λ (lt : number s < r + c). ap (λ n. nat_eq n 1) (bit_at_mask_inside r (r + c) (number s) le lt) ∙ sym (inside le lt))
    (λ (far : r + c ≤ number s). ap (λ n. nat_eq n 1) (bit_at_mask_above r (r + c) (number s) far) ∙ sym (within-above r c (number s) far))
    (cases_lt (number s) (r + c)))
    (cases_lt (number s) r)
  where
    inside : r ≤ number s → number s < r + c → is_within r c (number s) ≡ true
    inside le lt = ap (λ t. t && nat_lt (number s) (r + c)) (le-leb r (number s) le) ∙ lt-ltb (number s) (r + c) lt
