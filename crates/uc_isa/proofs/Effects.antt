-- What an instruction does depends on what it reads alone, and it changes no more than what it writes.
use Rattle.std.proofs.Common.{◌≡◌, ℕ, zero, suc, ◌+◌, ◌-◌, ◌<◌, ◌≤◌, ◌⊎◌, inl, inr, ⊎_elim, Bool, true, false, not, ◌||◌, ◌&&◌, List, [], ◌∷◌, Option, Some, None, length, take, drop, nat_eq, if◌then◌else◌, refl, sym, ap, ◌∙◌, subst, arith, eqb-true, eq-eqb, leb-true, le-leb, lt-ltb, ltb-true}
use Rattle.std.proofs.lemmas.Bool.{false≢true, cases_lt}
use Rattle.std.proofs.lemmas.List.{get_or_past, get_or-drop, length-drop}
use Rattle.std.proofs.Math.Bool.{or-true}
use Rattle.std.specs.Prelude.{nat_le, nat_lt, slice_index}
use Rattle.nv_base.specs.declared.term.Mem.{Mem}
use Rattle.nv_base.specs.declared.term.Mem.TheVariants.{Sram, Sdram, Scratch}
use Rattle.nv_base.specs.Memories.{Memories, HasSizes, fetched, stored}
use Rattle.nv_base.specs.Words.{bin_word}
use Rattle.nv_base.proofs.MemoryLemmas.{fetched-words}
use Rattle.uc_isa.specs.Engine.{IsEngine}
use Rattle.uc_isa.specs.Registers.{Register, register, source_register, address_register, target_register, read_register, write_register}
use Rattle.uc_isa.specs.Registers.Register.{InA, InB, InL, InS, InLD, InSD}
use Rattle.uc_isa.specs.Step.{effect, operand, address, with_result, with_flags, with_read, onward, holds, after_read, after_write, write_registers, bin_carry, un_word}
use Rattle.uc_isa.specs.declared.instruction.Src.{Src}
use Rattle.uc_isa.specs.declared.instruction.Dst.{Dst}
use Rattle.uc_isa.specs.declared.instruction.Dst.TheVariants as dst
use Rattle.uc_isa.specs.declared.instruction.Gpr.{Gpr}
use Rattle.uc_isa.specs.declared.instruction.Cond.{Cond}
use Rattle.uc_isa.specs.declared.instruction.Cond.TheVariants.{Always, Z, NZ, C, NC}
use Rattle.uc_isa.specs.declared.instruction.Instr.{Instr}
use Rattle.uc_isa.specs.declared.instruction.Instr.TheVariants.{Alu, Un, Immed, Br, Read, Write, Halt}
use Rattle.uc_isa.specs.declared.engine.Engine.{Engine}
use Rattle.uc_isa.specs.declared.engine.Stepped.TheVariants.{Halted}
use Rattle.uc_isa.proofs.Places.{place-with_result, place-with_read}
use Rattle.uc_isa.proofs.RegisterLemmas.{operand-register, address-register, register-other, puts-word, puts-flags, fills-run}
use Rattle.uc_isa.proofs.States.{effect-states, other-state}
use Rattle.uc_isa.specs.Program.{IsFormed}
use Rattle.uc_isa.specs.Relocated.{at_place}
use Rattle.uc_isa.specs.Resources.{Resource, IsResource, value, flag_word, same_register, is_some_register, is_flag, is_address, is_target, is_within, is_run_of_l, is_run_of_ld, is_read_run, is_write_run, tests, reads, writes, IsNextOfBranch}
use Rattle.uc_isa.specs.Resources.Resource.{In, Zero, Carry}
use Rattle.uc_isa.specs.Visits.{access}
use Rattle.uc_isa.specs.Alike.{ReadAlike, DoesAlike, GoesOn}

-- ---- registers by name

pub same-true : (q r : Register) → same_register q r ≡ true → q ≡ r
same-true (InA k) (InA j) h = ap InA (eqb-true k j h)
same-true (InA k) (InB j) h = absurd (false≢true h)
same-true (InA k) (InL j) h = absurd (false≢true h)
same-true (InA k) (InS j) h = absurd (false≢true h)
same-true (InA k) (InLD j) h = absurd (false≢true h)
same-true (InA k) (InSD j) h = absurd (false≢true h)
same-true (InB k) (InA j) h = absurd (false≢true h)
same-true (InB k) (InB j) h = ap InB (eqb-true k j h)
same-true (InB k) (InL j) h = absurd (false≢true h)
same-true (InB k) (InS j) h = absurd (false≢true h)
same-true (InB k) (InLD j) h = absurd (false≢true h)
same-true (InB k) (InSD j) h = absurd (false≢true h)
same-true (InL k) (InA j) h = absurd (false≢true h)
same-true (InL k) (InB j) h = absurd (false≢true h)
same-true (InL k) (InL j) h = ap InL (eqb-true k j h)
same-true (InL k) (InS j) h = absurd (false≢true h)
same-true (InL k) (InLD j) h = absurd (false≢true h)
same-true (InL k) (InSD j) h = absurd (false≢true h)
same-true (InS k) (InA j) h = absurd (false≢true h)
same-true (InS k) (InB j) h = absurd (false≢true h)
same-true (InS k) (InL j) h = absurd (false≢true h)
same-true (InS k) (InS j) h = ap InS (eqb-true k j h)
same-true (InS k) (InLD j) h = absurd (false≢true h)
same-true (InS k) (InSD j) h = absurd (false≢true h)
same-true (InLD k) (InA j) h = absurd (false≢true h)
same-true (InLD k) (InB j) h = absurd (false≢true h)
same-true (InLD k) (InL j) h = absurd (false≢true h)
same-true (InLD k) (InS j) h = absurd (false≢true h)
same-true (InLD k) (InLD j) h = ap InLD (eqb-true k j h)
same-true (InLD k) (InSD j) h = absurd (false≢true h)
same-true (InSD k) (InA j) h = absurd (false≢true h)
same-true (InSD k) (InB j) h = absurd (false≢true h)
same-true (InSD k) (InL j) h = absurd (false≢true h)
same-true (InSD k) (InS j) h = absurd (false≢true h)
same-true (InSD k) (InLD j) h = absurd (false≢true h)
same-true (InSD k) (InSD j) h = ap InSD (eqb-true k j h)

pub true-same : (r : Register) → same_register r r ≡ true
true-same (InA k) = eq-eqb k k refl
true-same (InB k) = eq-eqb k k refl
true-same (InL k) = eq-eqb k k refl
true-same (InS k) = eq-eqb k k refl
true-same (InLD k) = eq-eqb k k refl
true-same (InSD k) = eq-eqb k k refl

-- a name that is another one isn't the same
pub same-not : (q r : Register) → same_register q r ≡ false → ¬ (q ≡ r)
same-not q r h e = false≢true (sym h ∙ ap (λ x. same_register x r) e ∙ true-same r)

pub named-some : (o : Option Register) (r : Register) → is_some_register o (In r) ≡ true → o ≡ Some r
named-some (Some q) r h = ap (λ x. Some x) (sym (same-true r q h))
named-some None r h = absurd (false≢true h)

pub named-none : (o : Option Register) (r : Register) → is_some_register o (In r) ≡ false → ¬ (o ≡ Some r)
named-none (Some q) r h e = let same : q ≡ r = cc in same-not r q h (sym same)
named-none None r h e = cc

-- ---- spots that aren't there hold nothing

pub decide-spot : (s : Resource) → IsResource s ⊎ ¬ IsResource s
decide-spot (In (InA k)) = ⊎_elim (λ (h : k < 16). inl h) (λ (h : 16 ≤ k). inr (λ lt. omega arith)) (cases_lt k 16)
decide-spot (In (InB k)) = ⊎_elim (λ (h : k < 16). inl h) (λ (h : 16 ≤ k). inr (λ lt. omega arith)) (cases_lt k 16)
decide-spot (In (InL k)) = ⊎_elim (λ (h : k < 8). inl h) (λ (h : 8 ≤ k). inr (λ lt. omega arith)) (cases_lt k 8)
decide-spot (In (InS k)) = ⊎_elim (λ (h : k < 8). inl h) (λ (h : 8 ≤ k). inr (λ lt. omega arith)) (cases_lt k 8)
decide-spot (In (InLD k)) = ⊎_elim (λ (h : k < 8). inl h) (λ (h : 8 ≤ k). inr (λ lt. omega arith)) (cases_lt k 8)
decide-spot (In (InSD k)) = ⊎_elim (λ (h : k < 8). inl h) (λ (h : 8 ≤ k). inr (λ lt. omega arith)) (cases_lt k 8)
decide-spot Zero = inl tt
decide-spot Carry = inl tt

pub value-none : (s : Resource) (e : Engine) → IsEngine e → ¬ IsResource s → value s e ≡ 0
value-none (In (InA k)) e h out = get_or_past e.a k 0 (⊎_elim (λ (lt : k < 16). absurd (out lt)) (λ (le : 16 ≤ k). omega (arith, le, h.bank_a.0)) (cases_lt k 16))
value-none (In (InB k)) e h out = get_or_past e.b k 0 (⊎_elim (λ (lt : k < 16). absurd (out lt)) (λ (le : 16 ≤ k). omega (arith, le, h.bank_b.0)) (cases_lt k 16))
value-none (In (InL k)) e h out = get_or_past e.l k 0 (⊎_elim (λ (lt : k < 8). absurd (out lt)) (λ (le : 8 ≤ k). omega (arith, le, h.bank_l.0)) (cases_lt k 8))
value-none (In (InS k)) e h out = get_or_past e.s k 0 (⊎_elim (λ (lt : k < 8). absurd (out lt)) (λ (le : 8 ≤ k). omega (arith, le, h.bank_s.0)) (cases_lt k 8))
value-none (In (InLD k)) e h out = get_or_past e.ld k 0 (⊎_elim (λ (lt : k < 8). absurd (out lt)) (λ (le : 8 ≤ k). omega (arith, le, h.bank_ld.0)) (cases_lt k 8))
value-none (In (InSD k)) e h out = get_or_past e.sd k 0 (⊎_elim (λ (lt : k < 8). absurd (out lt)) (λ (le : 8 ≤ k). omega (arith, le, h.bank_sd.0)) (cases_lt k 8))
value-none Zero e h out = absurd (out tt)
value-none Carry e h out = absurd (out tt)

all-alike : (i : Instr) (e e' : Engine) → IsEngine e → IsEngine e' → ReadAlike i e e' → (s : Resource) → reads i s ≡ true → value s e ≡ value s e'
all-alike i e e' h h' same s r = ⊎_elim (λ (spot : IsResource s). same s spot r) (λ (out : ¬ IsResource s). value-none s e h out ∙ sym (value-none s e' h' out)) (decide-spot s)

-- ---- operands

second-too : (a b : Bool) → b ≡ true → (a || b) ≡ true
second-too a b h = ap (λ t. a || t) h ∙ or-true a

first-too : (a b : Bool) → a ≡ true → (a || b) ≡ true
first-too a b h = ap (λ t. t || b) h

operand-by : (x : Src) (e e' : Engine) → value (In (source_register x)) e ≡ value (In (source_register x)) e' → operand x e ≡ operand x e'
operand-by x e e' h = operand-register x e ∙ h ∙ sym (operand-register x e')

address-by : (x : Gpr) (e e' : Engine) → value (In (address_register x)) e ≡ value (In (address_register x)) e' → address x e ≡ address x e'
address-by x e e' h = address-register x e ∙ h ∙ sym (address-register x e')

-- ---- targets

-- a result with the flags by it
tested-there : (d : Dst) (v v' : ℕ) (c c' : Bool) (e e' : Engine) (s : Resource) → IsResource s → IsEngine e → IsEngine e' → v ≡ v' → c ≡ c' → (is_flag s || is_target d s) ≡ true
    → value s (onward (with_flags v c (with_result d v e))) ≡ value s (onward (with_flags v' c' (with_result d v' e')))
tested-there d v v' c c' e e' (In r) spot h h' same carry is =
    (puts-flags d v v c e h).target r (named-some (target_register d) r is) spot
    ∙ same
    ∙ sym ((puts-flags d v' v' c' e' h').target r (named-some (target_register d) r is) spot)
tested-there d v v' c c' e e' Zero spot h h' same carry is = ap (λ w. flag_word (nat_eq w 0)) same
tested-there d v v' c c' e e' Carry spot h h' same carry is = ap flag_word carry

tested-kept : (d : Dst) (v : ℕ) (c : Bool) (e : Engine) (s : Resource) → IsEngine e → (is_flag s || is_target d s) ≡ false → value s (onward (with_flags v c (with_result d v e))) ≡ value s e
tested-kept d v c e (In r) h lacks = (puts-flags d v v c e h).others r (named-none (target_register d) r lacks)
tested-kept d v c e Zero h lacks = absurd (false≢true (sym lacks))
tested-kept d v c e Carry h lacks = absurd (false≢true (sym lacks))

put-there : (d : Dst) (v : ℕ) (e e' : Engine) (s : Resource) → IsResource s → IsEngine e → IsEngine e' → is_target d s ≡ true → value s (onward (with_result d v e)) ≡ value s (onward (with_result d v e'))
put-there d v e e' (In r) spot h h' is = (puts-word d v e h).target r (named-some (target_register d) r is) spot ∙ sym ((puts-word d v e' h').target r (named-some (target_register d) r is) spot)
put-there d v e e' Zero spot h h' is = absurd (false≢true (sym (flagless d Zero is)))
  where
    flagless : (d : Dst) (s : Resource) → is_target d Zero ≡ true → true ≡ false
    flagless (dst.A k) s h = sym h
    flagless (dst.B k) s h = sym h
    flagless (dst.S k) s h = sym h
    flagless (dst.SD k) s h = sym h
    flagless dst.Nowhere s h = sym h
put-there d v e e' Carry spot h h' is = absurd (false≢true (sym (flagless d Carry is)))
  where
    flagless : (d : Dst) (s : Resource) → is_target d Carry ≡ true → true ≡ false
    flagless (dst.A k) s h = sym h
    flagless (dst.B k) s h = sym h
    flagless (dst.S k) s h = sym h
    flagless (dst.SD k) s h = sym h
    flagless dst.Nowhere s h = sym h

flag-put : (d : Dst) (v : ℕ) (e : Engine) → ((onward (with_result d v e)).z ≡ e.z) × ((onward (with_result d v e)).c ≡ e.c)
flag-put (dst.A k) v e = (refl, refl)
flag-put (dst.B k) v e = (refl, refl)
flag-put (dst.S k) v e = (refl, refl)
flag-put (dst.SD k) v e = (refl, refl)
flag-put dst.Nowhere v e = (refl, refl)

put-kept : (d : Dst) (v : ℕ) (e : Engine) (s : Resource) → IsEngine e → is_target d s ≡ false → value s (onward (with_result d v e)) ≡ value s e
put-kept d v e (In r) h lacks = (puts-word d v e h).others r (named-none (target_register d) r lacks)
put-kept d v e Zero h lacks = ap flag_word (flag-put d v e).0
put-kept d v e Carry h lacks = ap flag_word (flag-put d v e).1

put-next : (d : Dst) (v v' : ℕ) (e e' : Engine) → e.place ≡ e'.place → (with_result d v e).place + 1 ≡ (with_result d v' e').place + 1
put-next d v v' e e' at = ap (λ n. n + 1) (place-with_result d v e ∙ at ∙ sym (place-with_result d v' e'))

-- ---- runs of registers

both : (a b : Bool) → (a && b) ≡ true → (a ≡ true) × (b ≡ true)
both true b h = (refl, h)
both false b h = absurd (false≢true h)

-- a number of a run is so far after its first
pub within-at : (r n k : ℕ) → is_within r n k ≡ true → (i : ℕ) × (i < n) × (k ≡ r + i)
within-at r n k h =
    let t = both (nat_le r k) (nat_lt k (r + n)) h in
    let le : r ≤ k = leb-true r k t.0 in
    let lt : k < r + n = ltb-true k (r + n) t.1 in
    (k - r, omega arith, omega arith)

pub at-within : (r n i : ℕ) → i < n → is_within r n (r + i) ≡ true
at-within r n i lt = ap (λ t. t && nat_lt (r + i) (r + n)) (le-leb r (r + i) (omega arith)) ∙ lt-ltb (r + i) (r + n) (omega arith)

read-run-at : (m : Mem) (r n i : ℕ) → i < n → is_read_run m r n (In (read_register m (r + i))) ≡ true
read-run-at Sram r n i lt = at-within r n i lt
read-run-at Sdram r n i lt = at-within r n i lt
read-run-at Scratch r n i lt = at-within r n i lt

write-run-at : (m : Mem) (r n i : ℕ) → i < n → is_write_run m r n (In (write_register m (r + i))) ≡ true
write-run-at Sram r n i lt = at-within r n i lt
write-run-at Sdram r n i lt = at-within r n i lt
write-run-at Scratch r n i lt = at-within r n i lt

run-of_l : (r n : ℕ) (s : Resource) → is_run_of_l r n s ≡ true → (i : ℕ) × (i < n) × (s ≡ In (InL (r + i)))
run-of_l r n (In (InA k)) h = absurd (false≢true h)
run-of_l r n (In (InB k)) h = absurd (false≢true h)
run-of_l r n (In (InL k)) h = let w = within-at r n k h in (w.0, w.1, ap (λ j. In (InL j)) w.2)
run-of_l r n (In (InS k)) h = absurd (false≢true h)
run-of_l r n (In (InLD k)) h = absurd (false≢true h)
run-of_l r n (In (InSD k)) h = absurd (false≢true h)
run-of_l r n Zero h = absurd (false≢true h)
run-of_l r n Carry h = absurd (false≢true h)

run-of_ld : (r n : ℕ) (s : Resource) → is_run_of_ld r n s ≡ true → (i : ℕ) × (i < n) × (s ≡ In (InLD (r + i)))
run-of_ld r n (In (InA k)) h = absurd (false≢true h)
run-of_ld r n (In (InB k)) h = absurd (false≢true h)
run-of_ld r n (In (InL k)) h = absurd (false≢true h)
run-of_ld r n (In (InS k)) h = absurd (false≢true h)
run-of_ld r n (In (InLD k)) h = let w = within-at r n k h in (w.0, w.1, ap (λ j. In (InLD j)) w.2)
run-of_ld r n (In (InSD k)) h = absurd (false≢true h)
run-of_ld r n Zero h = absurd (false≢true h)
run-of_ld r n Carry h = absurd (false≢true h)

read-run : (m : Mem) (r n : ℕ) (s : Resource) → is_read_run m r n s ≡ true → (i : ℕ) × (i < n) × (s ≡ In (read_register m (r + i)))
read-run Sram r n s h = run-of_l r n s h
read-run Sdram r n s h = run-of_ld r n s h
read-run Scratch r n s h = run-of_l r n s h

-- the words of a run of registers, one by one
run-word : (r n : ℕ) (bank bank' : List ℕ) → length bank ≡ length bank' → r + n ≤ length bank → ((i : ℕ) → i < n → slice_index bank (r + i) ≡ slice_index bank' (r + i)) → take n (drop r bank) ≡ take n (drop r bank')
run-word r n bank bank' same le each = front n (drop r bank) (drop r bank') (omega (arith, length-drop r bank)) (omega (arith, length-drop r bank')) (λ i lt. get_or-drop r bank i 0 ∙ each i lt ∙ sym (get_or-drop r bank' i 0))
  where
    front : (n : ℕ) (xs ys : List ℕ) → n ≤ length xs → n ≤ length ys → ((i : ℕ) → i < n → slice_index xs i ≡ slice_index ys i) → take n xs ≡ take n ys
    front zero [] [] a b h = refl
    front zero [] (y ∷ ys) a b h = refl
    front zero (x ∷ xs) [] a b h = refl
    front zero (x ∷ xs) (y ∷ ys) a b h = refl
    front (suc n) [] ys a b h = absurd (omega arith)
    front (suc n) (x ∷ xs) [] a b h = absurd (omega arith)
    front (suc n) (x ∷ xs) (y ∷ ys) a b h = ap (λ z. z ∷ take n xs) (h 0 (omega arith)) ∙ ap (λ l. y ∷ l) (front n xs ys (omega arith) (omega arith) (λ i lt. h (suc i) (omega arith)))

written-alike : (m : Mem) (r n : ℕ) (e e' : Engine) → IsEngine e → IsEngine e' → r + n ≤ 8 → ((i : ℕ) → i < n → register (write_register m (r + i)) e ≡ register (write_register m (r + i)) e') → take n (drop r (write_registers m e)) ≡ take n (drop r (write_registers m e'))
written-alike Sram r n e e' h h' le each = run-word r n e.s e'.s (h.bank_s.0 ∙ sym h'.bank_s.0) (omega (arith, h.bank_s.0)) each
written-alike Sdram r n e e' h h' le each = run-word r n e.sd e'.sd (h.bank_sd.0 ∙ sym h'.bank_sd.0) (omega (arith, h.bank_sd.0)) each
written-alike Scratch r n e e' h h' le each = run-word r n e.s e'.s (h.bank_s.0 ∙ sym h'.bank_s.0) (omega (arith, h.bank_s.0)) each

halted-alike : (n : ℕ) (e e' : Engine) → IsEngine e → IsEngine e' → n ≤ 8 → ((i : ℕ) → i < n → register (InA (0 + i)) e ≡ register (InA (0 + i)) e') → take n e.a ≡ take n e'.a
halted-alike n e e' h h' le each = sym (ap (take n) (whole e.a)) ∙ run-word 0 n e.a e'.a (h.bank_a.0 ∙ sym h'.bank_a.0) (omega (arith, h.bank_a.0)) each ∙ ap (take n) (whole e'.a)
  where
    whole : (l : List ℕ) → drop 0 l ≡ l
    whole [] = refl
    whole (x ∷ l) = refl

-- ---- reads and writes of memories

read-does : (i : Instr) (m : Mem) (r at n : ℕ) (o : Option (List ℕ)) (e e' : Engine) (p : Memories) → ((s : Resource) → writes i s ≡ is_read_run m r n s) → r + n ≤ 8 → HasSizes p → fetched m at n p ≡ o → IsEngine e → IsEngine e' → e.place ≡ e'.place → access (Some i) e ≡ access (Some i) e'
    → DoesAlike i e e' (after_read m r at o e p) (after_read m r at o e' p)
read-does i m r at n (Some ws) e e' p run le sizes f h h' place reach =
    let long : length ws ≡ n = (fetched-words m at n p ws sizes f).0 in
    let fits : r + length ws ≤ 8 = omega arith in
    record {
      stepped = refl;
      packet = refl;
      place = ap (λ k. k + 1) (place-with_read m r ws e ∙ place ∙ sym (place-with_read m r ws e'));
      access = reach;
      written = λ goes s spot is.
          let t = read-run m r n s (sym (run s) ∙ is) in
          let lt : t.0 < length ws = let l = t.1 in omega arith in
          subst (λ (q : Resource). value q (onward (with_read m r ws e)) ≡ value q (onward (with_read m r ws e'))) (sym t.2)
          ((fills-run m r ws e h fits).run t.0 lt ∙ sym ((fills-run m r ws e' h' fits).run t.0 lt));
    }
read-does i m r at n None e e' p run le sizes f h h' place reach = record {
  stepped = refl;
  packet = refl;
  place = place;
  access = reach;
  written = λ goes. absurd (goes tt);
}

read-keeps : (m : Mem) (r at n : ℕ) (o : Option (List ℕ)) (e : Engine) (p : Memories) (s : Resource) → r + n ≤ 8 → HasSizes p → fetched m at n p ≡ o → IsEngine e → is_read_run m r n s ≡ false → value s (after_read m r at o e p).engine ≡ value s e
read-keeps m r at n (Some ws) e p (In q) le sizes f h lacks =
    let long : length ws ≡ n = (fetched-words m at n p ws sizes f).0 in
    (fills-run m r ws e h (omega arith)).others q (λ i lt same. false≢true (sym lacks ∙ ap (λ (x : Register). is_read_run m r n (In x)) same ∙ read-run-at m r n i (omega arith)))
read-keeps m r at n (Some ws) e p Zero le sizes f h lacks = ap flag_word (zero-read m)
  where
    zero-read : (m : Mem) → (onward (with_read m r ws e)).z ≡ e.z
    zero-read Sram = refl
    zero-read Sdram = refl
    zero-read Scratch = refl
read-keeps m r at n (Some ws) e p Carry le sizes f h lacks = ap flag_word (carry-read m)
  where
    carry-read : (m : Mem) → (onward (with_read m r ws e)).c ≡ e.c
    carry-read Sram = refl
    carry-read Sdram = refl
    carry-read Scratch = refl
read-keeps m r at n None e p s le sizes f h lacks = refl

-- flags and registers don't depend on the place
pub value-at : (s : Resource) (x : ℕ) (e : Engine) → value s (at_place x e) ≡ value s e
value-at (In r) x e = register-other r e e.z e.c x
value-at Zero x e = refl
value-at Carry x e = refl

write-does : (i : Instr) (m : Mem) (at : ℕ) (ws : List ℕ) (o : Option Memories) (e e' : Engine) (p : Memories) → ((s : Resource) → writes i s ≡ false) → e.place ≡ e'.place → access (Some i) e ≡ access (Some i) e'
    → DoesAlike i e e' (after_write m at ws o e p) (after_write m at ws o e' p)
write-does i m at ws (Some q) e e' p none place reach = record {
  stepped = refl;
  packet = refl;
  place = ap (λ k. k + 1) place;
  access = reach;
  written = λ goes s spot is. absurd (false≢true (sym (none s) ∙ is));
}
write-does i m at ws None e e' p none place reach = record {
  stepped = refl;
  packet = refl;
  place = place;
  access = reach;
  written = λ goes. absurd (goes tt);
}

write-keeps : (m : Mem) (at : ℕ) (ws : List ℕ) (o : Option Memories) (e : Engine) (p : Memories) (s : Resource) → value s (after_write m at ws o e p).engine ≡ value s e
write-keeps m at ws (Some q) e p s = value-at s (e.place + 1) e
write-keeps m at ws None e p s = refl

-- ---- branches

flag-number : (a b : Bool) → flag_word a ≡ flag_word b → a ≡ b
flag-number true true h = refl
flag-number false false h = refl
flag-number true false h = absurd (omega arith)
flag-number false true h = absurd (omega arith)

holds-alike : (cond : Cond) (e e' : Engine) → ((s : Resource) → tests cond s ≡ true → value s e ≡ value s e') → holds cond e ≡ holds cond e'
holds-alike Always e e' h = refl
holds-alike Z e e' h = flag-number e.z e'.z (h Zero refl)
holds-alike NZ e e' h = ap (λ b. not b) (flag-number e.z e'.z (h Zero refl))
holds-alike C e e' h = flag-number e.c e'.c (h Carry refl)
holds-alike NC e e' h = ap (λ b. not b) (flag-number e.c e'.c (h Carry refl))

-- ---- instructions

pub does-alike : (i : Instr) (e e' : Engine) (p : Memories) → IsFormed i → IsEngine e → IsEngine e' → HasSizes p → e.place ≡ e'.place → ReadAlike i e e' → DoesAlike i e e' (effect i e p) (effect i e' p)
does-alike (Alu d op x y) e e' p f h h' sizes at same =
    let all = all-alike (Alu d op x y) e e' h h' same in
    let one : operand x e ≡ operand x e' = operand-by x e e' (all (In (source_register x)) (first-too (same_register (source_register x) (source_register x)) (same_register (source_register x) (source_register y)) (true-same (source_register x)))) in
    let two : operand y e ≡ operand y e' = operand-by y e e' (all (In (source_register y)) (second-too (same_register (source_register y) (source_register x)) (same_register (source_register y) (source_register y)) (true-same (source_register y)))) in
    let word : bin_word op (operand x e) (operand y e) ≡ bin_word op (operand x e') (operand y e') = ap (λ n. bin_word op n (operand y e)) one ∙ ap (λ n. bin_word op (operand x e') n) two in
    let carry : bin_carry op (operand x e) (operand y e) ≡ bin_carry op (operand x e') (operand y e') = ap (λ n. bin_carry op n (operand y e)) one ∙ ap (λ n. bin_carry op (operand x e') n) two in
    record {
      stepped = refl;
      packet = refl;
      place = put-next d _ _ e e' at;
      access = refl;
      written = λ goes s spot is. tested-there d _ _ _ _ e e' s spot h h' word carry is;
    }
does-alike (Un d op x) e e' p f h h' sizes at same =
    let one : operand x e ≡ operand x e' = operand-by x e e' (all-alike (Un d op x) e e' h h' same (In (source_register x)) (true-same (source_register x))) in
    record {
      stepped = refl;
      packet = refl;
      place = put-next d _ _ e e' at;
      access = refl;
      written = λ goes s spot is. tested-there d _ _ _ _ e e' s spot h h' (ap (un_word op) one) refl is;
    }
does-alike (Immed d v k) e e' p f h h' sizes at same = record {
  stepped = refl;
  packet = refl;
  place = put-next d _ _ e e' at;
  access = refl;
  written = λ goes s spot is. put-there d _ e e' s spot h h' is;
}
does-alike (Br b target) e e' p f h h' sizes at same = record {
  stepped = refl;
  packet = refl;
  place = ap (λ t. if t then target else (e.place + 1)) (holds-alike b e e' (all-alike (Br b target) e e' h h' same)) ∙ ap (λ n. if holds b e' then target else (n + 1)) at;
  access = refl;
  written = λ goes s spot is. absurd (false≢true is);
}
does-alike (Read m r n x off) e e' p f h h' sizes at same =
    let to : address x e ≡ address x e' = address-by x e e' (all-alike (Read m r n x off) e e' h h' same (In (address_register x)) (true-same (address_register x))) in
    subst (λ k. DoesAlike (Read m r n x off) e e' (effect (Read m r n x off) e p) (after_read m r (k + off) (fetched m (k + off) n p) e' p)) to
    (read-does (Read m r n x off) m r (address x e + off) n _ e e' p (λ s. refl) f.run_inside.1 sizes refl h h' at (ap (λ k. Some (record { mem = m; at = k + off; count = n; written = None })) to))
does-alike (Write m r n x off) e e' p f h h' sizes at same =
    let all = all-alike (Write m r n x off) e e' h h' same in
    let to : address x e ≡ address x e' = address-by x e e' (all (In (address_register x)) (second-too (is_write_run m r n (In (address_register x))) (is_address x (In (address_register x))) (true-same (address_register x)))) in
    let words : take n (drop r (write_registers m e)) ≡ take n (drop r (write_registers m e')) = written-alike m r n e e' h h' f.run_inside.1 (λ i lt. all (In (write_register m (r + i))) (first-too (is_write_run m r n (In (write_register m (r + i)))) (is_address x (In (write_register m (r + i)))) (write-run-at m r n i lt))) in
    subst (λ k. DoesAlike (Write m r n x off) e e' (effect (Write m r n x off) e p) (after_write m (k + off) (take n (drop r (write_registers m e'))) (stored m (k + off) (take n (drop r (write_registers m e'))) p) e' p)) to
    (subst (λ l. DoesAlike (Write m r n x off) e e' (effect (Write m r n x off) e p) (after_write m (address x e + off) l (stored m (address x e + off) l p) e' p)) words
    (write-does (Write m r n x off) m (address x e + off) (take n (drop r (write_registers m e))) _ e e' p (λ s. refl) at
    (ap (λ k. Some (record { mem = m; at = k + off; count = n; written = Some (take n (drop r (write_registers m e))) })) to ∙ ap (λ l. Some (record { mem = m; at = address x e' + off; count = n; written = Some l })) words)))
does-alike (Halt k n) e e' p f h h' sizes at same = record {
  stepped = ap (λ ws. Halted k ws) (halted-alike n e e' h h' f.halt (λ i lt. all-alike (Halt k n) e e' h h' same (In (InA (0 + i))) (at-within 0 n i lt)));
  packet = refl;
  place = at;
  access = refl;
  written = λ goes. absurd (goes tt);
}

pub keeps-value : (i : Instr) (e : Engine) (p : Memories) (s : Resource) → IsFormed i → IsEngine e → HasSizes p → writes i s ≡ false → value s (effect i e p).engine ≡ value s e
keeps-value (Alu d op x y) e p s f h sizes lacks = tested-kept d _ _ e s h lacks
keeps-value (Un d op x) e p s f h sizes lacks = tested-kept d _ _ e s h lacks
keeps-value (Immed d v k) e p s f h sizes lacks = put-kept d _ e s h lacks
keeps-value (Br b target) e p s f h sizes lacks = value-at s _ e
keeps-value (Read m r n x off) e p s f h sizes lacks = read-keeps m r (address x e + off) n _ e p s f.run_inside.1 sizes refl h lacks
keeps-value (Write m r n x off) e p s f h sizes lacks = write-keeps m _ _ _ e p s
keeps-value (Halt k n) e p s f h sizes lacks = refl

formed-alone : (i : Instr) (e : Engine) (p : Memories) → IsFormed i → IsEngine e → HasSizes p → IsEngine (effect i e p).engine × HasSizes (effect i e p).packet
formed-alone (Alu d op x y) e p f h sizes = effect-states [] 0 (Alu d op x y) e p (record { operands = f.operands; run_inside = f.run_inside; pairs = f.pairs; numbers = f.numbers; target = tt; halt = f.halt; last = λ l. absurd (omega arith) }) h sizes
formed-alone (Un d op x) e p f h sizes = effect-states [] 0 (Un d op x) e p (record { operands = f.operands; run_inside = f.run_inside; pairs = f.pairs; numbers = f.numbers; target = tt; halt = f.halt; last = λ l. absurd (omega arith) }) h sizes
formed-alone (Immed d v k) e p f h sizes = effect-states [] 0 (Immed d v k) e p (record { operands = f.operands; run_inside = f.run_inside; pairs = f.pairs; numbers = f.numbers; target = tt; halt = f.halt; last = λ l. absurd (omega arith) }) h sizes
formed-alone (Br b target) e p f h sizes = (other-state e e.z e.c _ h, sizes)
formed-alone (Read m r n x off) e p f h sizes = effect-states [] 0 (Read m r n x off) e p (record { operands = f.operands; run_inside = f.run_inside; pairs = f.pairs; numbers = f.numbers; target = tt; halt = f.halt; last = λ l. absurd (omega arith) }) h sizes
formed-alone (Write m r n x off) e p f h sizes = effect-states [] 0 (Write m r n x off) e p (record { operands = f.operands; run_inside = f.run_inside; pairs = f.pairs; numbers = f.numbers; target = tt; halt = f.halt; last = λ l. absurd (omega arith) }) h sizes
formed-alone (Halt k n) e p f h sizes = (h, sizes)

pub keeps-engine : (i : Instr) (e : Engine) (p : Memories) → IsFormed i → IsEngine e → HasSizes p → IsEngine (effect i e p).engine
keeps-engine i e p f h sizes = (formed-alone i e p f h sizes).0

pub keeps-sizes : (i : Instr) (e : Engine) (p : Memories) → IsFormed i → IsEngine e → HasSizes p → HasSizes (effect i e p).packet
keeps-sizes i e p f h sizes = (formed-alone i e p f h sizes).1

-- ---- where it leads

branch-next : (cond : Cond) (target x : ℕ) (b : Bool) → (b ≡ false → cond ≡ Always → ⊥) → IsNextOfBranch cond target x (if b then target else (x + 1))
branch-next Always target x true h = refl
branch-next Always target x false h = absurd (h refl refl)
branch-next Z target x true h = inl refl
branch-next Z target x false h = inr refl
branch-next NZ target x true h = inl refl
branch-next NZ target x false h = inr refl
branch-next C target x true h = inl refl
branch-next C target x false h = inr refl
branch-next NC target x true h = inl refl
branch-next NC target x false h = inr refl

always-holds : (cond : Cond) (e : Engine) → holds cond e ≡ false → cond ≡ Always → ⊥
always-holds Always e h same = false≢true (sym h)
always-holds Z e h same = cc
always-holds NZ e h same = cc
always-holds C e h same = cc
always-holds NC e h same = cc

read-goes : (m : Mem) (r n k at : ℕ) (x : Gpr) (o : Option (List ℕ)) (e : Engine) (p : Memories) → GoesOn (Read m r n x k) e p (after_read m r at o e p)
read-goes m r n k at x (Some ws) e p = inr (λ h. h, ap (λ j. j + 1) (place-with_read m r ws e))
read-goes m r n k at x None e p = inl (tt, refl, refl)

write-goes : (m : Mem) (r n k at : ℕ) (x : Gpr) (ws : List ℕ) (o : Option Memories) (e : Engine) (p : Memories) → GoesOn (Write m r n x k) e p (after_write m at ws o e p)
write-goes m r n k at x ws (Some q) e p = inr (λ h. h, refl)
write-goes m r n k at x ws None e p = inl (tt, refl, refl)

pub goes-on : (i : Instr) (e : Engine) (p : Memories) → GoesOn i e p (effect i e p)
goes-on (Alu d op x y) e p = inr (λ h. h, ap (λ n. n + 1) (place-with_result d _ e))
goes-on (Un d op x) e p = inr (λ h. h, ap (λ n. n + 1) (place-with_result d _ e))
goes-on (Immed d v k) e p = inr (λ h. h, ap (λ n. n + 1) (place-with_result d _ e))
goes-on (Br b target) e p = inr (λ h. h, branch-next b target e.place (holds b e) (always-holds b e))
goes-on (Read m r n x off) e p = read-goes m r n off _ x _ e p
goes-on (Write m r n x off) e p = write-goes m r n off _ x _ _ e p
goes-on (Halt k n) e p = inl (tt, refl, refl)
