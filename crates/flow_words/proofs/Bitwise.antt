-- The bits of primitives are as their operands' bits say.
use Rattle.std.proofs.Common.{◌≡◌, ℕ, zero, suc, ◌+◌, ◌-◌, ◌<◌, ◌≤◌, min, Bool, true, false, nat_eq, nat_lt, nat_le, ◌&&◌, ◌||◌, refl, sym, ap, subst, ◌∙◌, ⊎_elim, inl, inr, if◌then◌else◌, slice_index_or, arith}
use Rattle.std.specs.Int.{bit_at, w32}
use Rattle.std.proofs.lemmas.Bool.{and_parts, or_cases, eqb-true, cases_lt}
use Rattle.std.proofs.lemmas.Bool.Decides.{nat_tests}
use Rattle.std.proofs.lemmas.List.FromFn.{get_or-map-range_with_len}
use Rattle.std.proofs.lemmas.Nat.Bits.{bit_at_and, bit_at_or, bit_at_xor, bit_at_not, bit_at-lt, same_from_bits_below}
use Rattle.nv_base.specs.declared.term.Atom.{Atom}
use Rattle.nv_base.specs.declared.term.Atom.TheVariants.{Var, Lit}
use Rattle.nv_base.specs.declared.term.Una.{Una}
use Rattle.nv_base.specs.declared.term.Una.TheVariants.{Not, Shl, Shr, Rol}
use Rattle.nv_base.specs.declared.term.Bin.TheVariants.{Add, Sub, And, Or, Xor}
use Rattle.nv_base.specs.declared.term.Primitive.{Primitive}
use Rattle.nv_base.specs.declared.term.Primitive.TheVariants.{Same, Una as UnaOf, Bin as BinOf}
use Rattle.nv_base.specs.Words.{Env, IsEnv, una_word, atom_word, prim_word, HasCount, HasPrimCount}
use Rattle.nv_base.proofs.Environments.{atom-fits, prim-fits}
use Rattle.flow_words.specs.declared.bits.Bit.{Bit}
use Rattle.flow_words.specs.declared.bits.Bit.TheVariants.{Unknown, Zero, One, Of, Flipped}
use Rattle.flow_words.specs.Tables.{Table}
use Rattle.flow_words.specs.Bits.{IsBit, is_zero, is_same, differing, own, literal_bit, atom_bit, una_bit, is_free, above, sum_bit, prim_bit, bits_of, bit_of, AreBitsOf, AreSame, IsSettledFrom}
use Rattle.flow_words.specs.inner.Reduced.{Holds, HasWord}
use Rattle.flow_words.proofs.BitLemmas.{pick, bit_moved, bit_flipped, zero_bit, same_bit, common_bit, either_bit, differing_bit, word_bit, left_low, left_high, right_bit, right_above, turned_high, turned_low, free_sum, below_from, above_sum}

own_bit : (env : Env) (x i : ℕ) (b : Bit) → IsBit env (env x) i b → IsBit env (env x) i (own x i b)
own_bit env x i Unknown h = refl
own_bit env x i Zero h = h
own_bit env x i One h = h
own_bit env x i (Of y j) h = h
own_bit env x i (Flipped y j) h = h

literal : (env : Env) (v i : ℕ) → i < 32 → IsBit env (atom_word env (Lit v)) i (literal_bit v i)
literal env v i lt =
    let less = bit_at-lt v i in
    pick (nat_eq (bit_at v i) 1) (IsBit env (atom_word env (Lit v)) i) One Zero
    (λ e. word_bit v i lt ∙ eqb-true (bit_at v i) 1 e)
    (λ e. let none : bit_at v i ≡ 0 = grind (arith, nat_tests, less) in word_bit v i lt ∙ none)

module _ (T : Table) (env : Env) (holds : Holds T env) (words : IsEnv env) where
  pub atom_holds : (a : Atom) (i : ℕ) → i < 32 → IsBit env (atom_word env a) i (atom_bit T a i)
  atom_holds (Var x) i lt =
      pick (T x).live (IsBit env (env x) i) (own x i (slice_index_or (T x).bits i Unknown)) (Of x i)
      (λ e. own_bit env x i (slice_index_or (T x).bits i Unknown) (holds.bits x i e lt))
      (λ e. refl)
  atom_holds (Lit v) i lt = literal env v i lt

  una_holds : (op : Una) (a : Atom) (i : ℕ) → HasCount op → i < 32 → IsBit env (una_word op (atom_word env a)) i (una_bit T op a i)
  una_holds Not a i count lt = bit_flipped env (atom_word env a) (una_word Not (atom_word env a)) i (atom_bit T a i) (bit_at_not w32 (atom_word env a) i (atom-fits env a words) lt) (atom_holds a i lt)
  una_holds (Shl k) a i count lt =
      let x = atom_word env a in
      pick (nat_lt i k) (IsBit env (una_word (Shl k) x) i) Zero (atom_bit T a (i - k))
      (λ e. left_low k x i lt (grind (arith, nat_tests)))
      (λ e. bit_moved env x (una_word (Shl k) x) (i - k) i (atom_bit T a (i - k)) (left_high k x i lt (grind (arith, nat_tests))) (atom_holds a (i - k) (omega arith)))
  una_holds (Shr k) a i count lt =
      let x = atom_word env a in
      pick (nat_lt k (32 - i)) (IsBit env (una_word (Shr k) x) i) (atom_bit T a (i + k)) Zero
      (λ e. let less : k < 32 - i = grind (arith, nat_tests) in bit_moved env x (una_word (Shr k) x) (i + k) i (atom_bit T a (i + k)) (right_bit k x i) (atom_holds a (i + k) (omega arith)))
      (λ e. let most : 32 - i ≤ k = grind (arith, nat_tests) in right_above k x i (atom-fits env a words) (omega arith))
  una_holds (Rol k) a i count lt =
      let x = atom_word env a in
      let fits = atom-fits env a words in
      let most : k ≤ 32 = omega (arith, count.1) in
      pick (nat_le k i) (IsBit env (una_word (Rol k) x) i) (atom_bit T a (i - k)) _
      (λ e. let le : k ≤ i = grind (arith, nat_tests) in bit_moved env x (una_word (Rol k) x) (i - k) i (atom_bit T a (i - k)) (turned_high k x i fits lt most le) (atom_holds a (i - k) (omega arith)))
      (λ e. let less : i < k = grind (arith, nat_tests) in
      pick (nat_le k 32) (IsBit env (una_word (Rol k) x) i) (atom_bit T a (i + (32 - k))) Unknown
      (λ f. bit_moved env x (una_word (Rol k) x) (i + (32 - k)) i (atom_bit T a (i + (32 - k))) (turned_low k x i fits lt most less) (atom_holds a (i + (32 - k)) (omega arith)))
      (λ f. tt))

  -- ---- sums

  none_both : (a b : Atom) (i j : ℕ) → i ≤ 32 → is_free T a b i ≡ true → j < i → min (bit_at (atom_word env a) j) (bit_at (atom_word env b) j) ≡ 0
  none_both a b zero j most e lt = absurd (omega arith)
  none_both a b (suc i) j most e lt =
      let parts = and_parts (is_free T a b i) (is_zero (atom_bit T a i) || is_zero (atom_bit T b i)) e in
      let here : i < 32 = omega arith in
      ⊎_elim (λ (less : j < i). none_both a b i j (omega arith) parts.0 less)
      (λ (more : i ≤ j).
      let same : j ≡ i = omega arith in
      subst (λ n. min (bit_at (atom_word env a) n) (bit_at (atom_word env b) n) ≡ 0) (sym same)
      (⊎_elim (λ z. let k = zero_bit env (atom_word env a) i (atom_bit T a i) z (atom_holds a i here) in omega (arith, k)) (λ z. let k = zero_bit env (atom_word env b) i (atom_bit T b i) z (atom_holds b i here) in omega (arith, k)) (or_cases (is_zero (atom_bit T a i)) (is_zero (atom_bit T b i)) parts.1)))
      (cases_lt j i)

  -- from the places above both on there are no bits
  none_above : (a b : Atom) (n j : ℕ) → n ≤ 32 → above T a b n ≤ j → j < n → (bit_at (atom_word env a) j ≡ 0) × (bit_at (atom_word env b) j ≡ 0)
  none_above a b zero j most le lt = absurd (omega arith)
  none_above a b (suc n) j most le lt = at (is_zero (atom_bit T a n) && is_zero (atom_bit T b n)) refl (λ low less. none_above a b n j (omega arith) low less)
    where
      at : (c : Bool) → (is_zero (atom_bit T a n) && is_zero (atom_bit T b n)) ≡ c → (above T a b n ≤ j → j < n → (bit_at (atom_word env a) j ≡ 0) × (bit_at (atom_word env b) j ≡ 0)) → (bit_at (atom_word env a) j ≡ 0) × (bit_at (atom_word env b) j ≡ 0)
      at true e next =
          let parts = and_parts (is_zero (atom_bit T a n)) (is_zero (atom_bit T b n)) e in
          let here : n < 32 = omega arith in
          let low : above T a b n ≤ j = subst (λ m. m ≤ j) (ap (λ c. if c then above T a b n else suc n) e) le in
          ⊎_elim (λ (less : j < n). next low less)
          (λ (more : n ≤ j).
          let same : j ≡ n = omega arith in
          subst (λ m. (bit_at (atom_word env a) m ≡ 0) × (bit_at (atom_word env b) m ≡ 0)) (sym same)
          (zero_bit env (atom_word env a) n (atom_bit T a n) parts.0 (atom_holds a n here), zero_bit env (atom_word env b) n (atom_bit T b n) parts.1 (atom_holds b n here)))
          (cases_lt j n)
      at false e next = let high : suc n ≤ j = subst (λ m. m ≤ j) (ap (λ c. if c then above T a b n else suc n) e) le in absurd (omega (arith, high, lt))

  sum_holds : (a b : Atom) (i : ℕ) → i < 32 → IsBit env (prim_word env (BinOf Add a b)) i (sum_bit T a b i)
  sum_holds a b i lt =
      let x = atom_word env a in
      let y = atom_word env b in
      let r = prim_word env (BinOf Add a b) in
      let t = above T a b 32 in
      pick (is_free T a b i) (IsBit env r i) (differing (atom_bit T a i) (atom_bit T b i)) _
      (λ e. differing_bit env x y r i (atom_bit T a i) (atom_bit T b i) (word_bit (x + y) i lt ∙ free_sum x y i (λ j less. none_both a b i j (omega arith) e less)) (atom_holds a i lt) (atom_holds b i lt))
      (λ f.
      pick (nat_lt t i) (IsBit env r i) Zero Unknown
      (λ e.
      let less : t < i = grind (arith, nat_tests) in
      let most : t ≤ 32 = omega arith in
      word_bit (x + y) i lt
      ∙ above_sum t x y i less (below_from t x most (atom-fits env a words) (λ j le lj. (none_above a b 32 j (omega arith) le lj).0)) (below_from t y most (atom-fits env b words) (λ j le lj. (none_above a b 32 j (omega arith) le lj).1)))
      (λ e. tt))

  pub prim_holds : (p : Primitive) (i : ℕ) → HasPrimCount p → i < 32 → IsBit env (prim_word env p) i (prim_bit T p i)
  prim_holds (Same a) i count lt = atom_holds a i lt
  prim_holds (UnaOf op a) i count lt = una_holds op a i count lt
  prim_holds (BinOf Add a b) i count lt = sum_holds a b i lt
  prim_holds (BinOf Sub a b) i count lt = tt
  prim_holds (BinOf And a b) i count lt = common_bit env (atom_word env a) (atom_word env b) (prim_word env (BinOf And a b)) i (atom_bit T a i) (atom_bit T b i) (bit_at_and (atom_word env a) (atom_word env b) i) (atom_holds a i lt) (atom_holds b i lt)
  prim_holds (BinOf Or a b) i count lt = either_bit env (atom_word env a) (atom_word env b) (prim_word env (BinOf Or a b)) i (atom_bit T a i) (atom_bit T b i) (bit_at_or (atom_word env a) (atom_word env b) i) (atom_holds a i lt) (atom_holds b i lt)
  prim_holds (BinOf Xor a b) i count lt = differing_bit env (atom_word env a) (atom_word env b) (prim_word env (BinOf Xor a b)) i (atom_bit T a i) (atom_bit T b i) (bit_at_xor (atom_word env a) (atom_word env b) i) (atom_holds a i lt) (atom_holds b i lt)

-- ---- the same bits

pub bit_at_place : (T : Table) (p : Primitive) (i : ℕ) → i < 32 → bit_of (bits_of T p) i ≡ prim_bit T p i
bit_at_place T p i lt = get_or-map-range_with_len (prim_bit T p) 0 32 i i Unknown lt (omega arith)

pub same_words : (T : Table) (p q : Primitive) → HasPrimCount p → HasPrimCount q → AreSame (bits_of T p) (bits_of T q) → HasWord T p q
same_words T p q countp countq same = record {
  word = λ env words holds.
      same_from_bits_below 32 (prim_word env q) (prim_word env p) (prim-fits env q words countq) (prim-fits env p words countp)
      (λ i lt.
      let e : is_same (prim_bit T p i) (prim_bit T q i) ≡ true = ap (λ b. is_same b (prim_bit T q i)) (sym (bit_at_place T p i lt)) ∙ ap (is_same (bit_of (bits_of T p) i)) (sym (bit_at_place T q i lt)) ∙ same i lt in
      sym (same_bit env (prim_word env p) (prim_word env q) i i (prim_bit T p i) (prim_bit T q i) e (prim_holds T env holds words p i countp lt) (prim_holds T env holds words q i countq lt)));
}

pub operand_words : (T : Table) (p : Primitive) (a : Atom) → HasPrimCount p → AreBitsOf T (bits_of T p) a → HasWord T p (Same a)
operand_words T p a count same = record {
  word = λ env words holds.
      same_from_bits_below 32 (atom_word env a) (prim_word env p) (atom-fits env a words) (prim-fits env p words count)
      (λ i lt.
      let e : is_same (prim_bit T p i) (atom_bit T a i) ≡ true = ap (λ b. is_same b (atom_bit T a i)) (sym (bit_at_place T p i lt)) ∙ same i lt in
      sym (same_bit env (prim_word env p) (atom_word env a) i i (prim_bit T p i) (atom_bit T a i) e (prim_holds T env holds words p i count lt) (atom_holds T env holds words a i lt)));
}

pub settled_word : (T : Table) (q r : Primitive) → HasPrimCount q → IsSettledFrom T q r → HasWord T q r
settled_word T q r count (inl e) = subst (HasWord T q) (sym e) (record { word = λ env words holds. refl })
settled_word T q r count (inr h) = subst (HasWord T q) (sym h.1) (operand_words T q h.0 count h.2)

pub then_word : (T : Table) (p q r : Primitive) → HasWord T p q → HasWord T q r → HasWord T p r
then_word T p q r h g = record { word = λ env words holds. g.word env words holds ∙ h.word env words holds }
