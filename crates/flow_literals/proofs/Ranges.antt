-- Consecutive numbers.
use Rattle.std.proofs.Common.{◌≡◌, ℕ, zero, suc, ◌+◌, ◌<◌, true, false, not, nat_eq, [], ◌∷◌, ◌++◌, refl, ap, ◌∙◌, arith}
use Rattle.std.specs.List.{range_with_len}
use Rattle.std.proofs.lemmas.Bool.{or_from, and_from, not_from_false, false_from_ne_true}
use Rattle.nv_base.specs.Sets.{is_in, all_different}
use Rattle.nv_base.proofs.Sets.{same-number}

pub range_last : (n a : ℕ) → range_with_len a (n + 1) ≡ range_with_len a n ++ (a + n) ∷ []
range_last zero a = let e : a ≡ a + 0 = omega arith in ap (λ z. z ∷ []) e
range_last (suc n) a = let k : suc n + 1 ≡ suc (n + 1) = omega arith in let e : a + 1 + n ≡ a + suc n = omega arith in ap (range_with_len a) k ∙ ap (λ l. a ∷ l) (range_last n (a + 1) ∙ ap (λ z. range_with_len (a + 1) n ++ z ∷ []) e)

not_equal : (z a : ℕ) → z < a → nat_eq z a ≡ false
not_equal z a lt = false_from_ne_true (nat_eq z a) (λ e. let s = same-number z a e in absurd (omega arith))

pub below_range : (n z a : ℕ) → z < a → is_in z (range_with_len a n) ≡ false
below_range zero z a lt = refl
below_range (suc n) z a lt = or_from (nat_eq z a) (is_in z (range_with_len (a + 1) n)) (not_equal z a lt) (below_range n z (a + 1) (omega arith))

pub range_different : (n a : ℕ) → all_different (range_with_len a n) ≡ true
range_different zero a = refl
range_different (suc n) a =
    and_from (not (is_in a (range_with_len (a + 1) n))) (all_different (range_with_len (a + 1) n)) (not_from_false (is_in a (range_with_len (a + 1) n)) (below_range n a (a + 1) (omega arith))) (range_different n (a + 1))
