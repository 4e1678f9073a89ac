-- the least unfixed column of a row that isn't met
use Rattle.std.proofs.Common.{◌≡◌, ℕ, zero, suc, ◌+◌, ◌<◌, ◌≤◌, List, [], ◌∷◌, length, take, get_or, Bool, false, true, Option, Some, None, ℤ, pos, refl, sym, subst, ◌⊎◌, inl, inr, arith, add-one, min}
use Rattle.std.specs.Option.{is_some}
use Rattle.std.proofs.lemmas.Bool.{cases_lt}
use Rattle.std.proofs.lemmas.List.{take_all}
use Rattle.zo_model.specs.Program.{Meets, Rise}
use Rattle.zo_model.specs.declared.program.Row.{Row}
use Rattle.zo_cert_tree.specs.Fixing.{ones}
use Rattle.zo_solve_dive.specs.Choice.{HasColumn, IsFree, IsLeast, IsPreferred, Lacks, SomeLacks}
use Rattle.zo_solve_dive.specs.inner.Least.{AnswersLeast, Either, IsFreeIn, IsPreferredBy}

-- ---- whether a place is free

pub free_at : (fixed : List (Option Bool)) (j : ℕ) → j < length fixed → is_some (get_or fixed j None) ≡ false → IsFree fixed j
free_at [] j lt e = absurd (omega arith)
free_at (None ∷ os) zero lt e = refl
free_at (Some v ∷ os) zero lt e = absurd (cc e)
free_at (o ∷ os) (suc j) lt e = free_at os j (omega arith) e

pub not_free_at : (fixed : List (Option Bool)) (j : ℕ) → is_some (get_or fixed j None) ≡ true → IsFree fixed j → ⊥
not_free_at [] j e f = cc f
not_free_at (None ∷ os) zero e f = cc e
not_free_at (Some v ∷ os) zero e f = cc f
not_free_at (o ∷ os) (suc j) e f = not_free_at os j e f

-- ---- the columns of a row rise, so the first unfixed one is the least

rise_has : (ts : List (ℕ × ℤ)) (lo n k : ℕ) → Rise lo n ts → HasColumn k ts → lo ≤ k
rise_has [] lo n k r h = absurd h
rise_has (t ∷ ts) lo n k r (inl e) = omega (arith, r.0, e)
rise_has (t ∷ ts) lo n k r (inr h) = let ih : suc t.0 ≤ k = rise_has ts (suc t.0) n k r.2 h in omega (arith, r.0)

has_at : (ts : List (ℕ × ℤ)) (i : ℕ) → i < length ts → HasColumn (get_or ts i (0, pos 0)).0 ts
has_at [] i lt = absurd (omega arith)
has_at (t ∷ ts) zero lt = inl refl
has_at (t ∷ ts) (suc i) lt = inr (has_at ts i (omega arith))

least_at : (P : ℕ → Type 0) (ts : List (ℕ × ℤ)) (lo n i k : ℕ) → Rise lo n ts → i < length ts → ((m : ℕ) → HasColumn m (take i ts) → P m → ⊥) → HasColumn k ts → P k → (get_or ts i (0, pos 0)).0 ≤ k
least_at P [] lo n i k r lt none h p = absurd (omega arith)
least_at P (t ∷ ts) lo n zero k r lt none (inl e) p = omega (arith, e)
least_at P (t ∷ ts) lo n zero k r lt none (inr h) p = let b : suc t.0 ≤ k = rise_has ts (suc t.0) n k r.2 h in omega arith
least_at P (t ∷ ts) lo n (suc i) k r lt none (inl e) p = absurd (none k (inl e) p)
least_at P (t ∷ ts) lo n (suc i) k r lt none (inr h) p = least_at P ts (suc t.0) n i k r.2 (omega arith) (λ m h p. none m (inr h) p) h p

has_suc : (ts : List (ℕ × ℤ)) (i k : ℕ) → i < length ts → HasColumn k (take (suc i) ts) → HasColumn k (take i ts) ⊎ ((get_or ts i (0, pos 0)).0 ≡ k)
has_suc [] i k lt h = absurd (omega arith)
has_suc (t ∷ ts) zero k lt (inl e) = inr e
has_suc (t ∷ ts) zero k lt (inr h) = absurd h
has_suc (t ∷ ts) (suc i) k lt (inl e) = inl (inl e)
has_suc (t ∷ ts) (suc i) k lt (inr h) = elim (has_suc ts i k (omega arith) h) [
  | inl g ↦ inl (inr g)
  | inr e ↦ inr e
]

pub fixed_more : (P : ℕ → Type 0) (ts : List (ℕ × ℤ)) (i : ℕ) → i < length ts → ((m : ℕ) → HasColumn m (take i ts) → P m → ⊥) → (P (get_or ts i (0, pos 0)).0 → ⊥) → (m : ℕ) → HasColumn m (take (i + 1) ts) → P m → ⊥
fixed_more P ts i lt none here m h p = elim (has_suc ts i m lt (subst (λ n. HasColumn m (take n ts)) (add-one i) h)) [
  | inl g ↦ none m g p
  | inr e ↦ here (subst P (sym e) p)
]

pub first_is_least : (fixed : List (Option Bool)) (ts : List (ℕ × ℤ)) (n i : ℕ) → Rise 0 n ts → i < length ts → ((m : ℕ) → HasColumn m (take i ts) → IsFree fixed m → ⊥) → IsFree fixed (get_or ts i (0, pos 0)).0 → IsLeast (IsFreeIn fixed ts) (get_or ts i (0, pos 0)).0
first_is_least fixed ts n i r lt none here = record {
  holds = record { free = here; there = has_at ts i lt };
  least = λ k p. least_at (IsFree fixed) ts 0 n i k r lt none p.there p.free;
}

pub none_free : (fixed : List (Option Bool)) (ts : List (ℕ × ℤ)) (i : ℕ) → length ts ≤ i → ((m : ℕ) → HasColumn m (take i ts) → IsFree fixed m → ⊥) → AnswersLeast (IsFreeIn fixed ts) None
none_free fixed ts i le none = λ k p. none k (subst (HasColumn k) (sym (take_all i ts le)) p.there) p.free

-- ---- a kind by another

pub answers_as : (P Q : ℕ → Type 0) (o : Option ℕ) → ((k : ℕ) → P k → Q k) → ((k : ℕ) → Q k → P k) → AnswersLeast P o → AnswersLeast Q o
answers_as P Q None there back h = λ k q. h k (back k q)
answers_as P Q (Some j) there back h = record { holds = there j h.holds; least = λ k q. h.least k (back k q) }

-- ---- one row

pub met_wants_none : (fixed : List (Option Bool)) (r : Row) → Meets (ones fixed) r → AnswersLeast (IsPreferredBy fixed r) None
met_wants_none fixed r met = λ k p. p.lacks.not_met met

pub wanted_of_row : (fixed : List (Option Bool)) (r : Row) (o : Option ℕ) → (Meets (ones fixed) r → ⊥) → AnswersLeast (IsFreeIn fixed r.terms.items) o → AnswersLeast (IsPreferredBy fixed r) o
wanted_of_row fixed r o unmet h =
    answers_as (IsFreeIn fixed r.terms.items) (IsPreferredBy fixed r) o (λ k p. record { free = p.free; lacks = record { not_met = unmet; there = p.there } }) (λ k p. record { free = p.free; there = p.lacks.there }) h

-- ---- the lesser of two

pub lesser_both : (P Q : ℕ → Type 0) (i j m : ℕ) → m ≡ min i j → IsLeast P i → IsLeast Q j → IsLeast (Either P Q) m
lesser_both P Q i j m e p q = record { holds = whose; least = below }
  where
    whose : P m ⊎ Q m
    whose = elim (cases_lt j i) [
      | inl lt ↦ let same : j ≡ m = omega (arith, e, lt) in inr (subst Q same q.holds)
      | inr le ↦ let same : i ≡ m = omega (arith, e, le) in inl (subst P same p.holds)
    ]

    below : (k : ℕ) → P k ⊎ Q k → m ≤ k
    below k (inl h) = let b = p.least k h in omega (arith, e)
    below k (inr h) = let b = q.least k h in omega (arith, e)

pub lesser_left : (P Q : ℕ → Type 0) (i : ℕ) → IsLeast P i → AnswersLeast Q None → IsLeast (Either P Q) i
lesser_left P Q i p q = record { holds = inl p.holds; least = below }
  where
    below : (k : ℕ) → P k ⊎ Q k → i ≤ k
    below k (inl h) = p.least k h
    below k (inr h) = absurd (q k h)

pub lesser_right : (P Q : ℕ → Type 0) (o : Option ℕ) → AnswersLeast P None → AnswersLeast Q o → AnswersLeast (Either P Q) o
lesser_right P Q o p q = answers_as Q (Either P Q) o (λ k h. inr h) back q
  where
    back : (k : ℕ) → P k ⊎ Q k → Q k
    back k (inl h) = absurd (p k h)
    back k (inr h) = h

-- ---- all rows

pub wanted_of_none : (fixed : List (Option Bool)) → AnswersLeast (IsPreferred [] fixed) None
wanted_of_none fixed = λ k p. p.lacks

lacks_suc : (fixed : List (Option Bool)) (rs : List Row) (i k : ℕ) (d : Row) → i < length rs → SomeLacks fixed k (take (suc i) rs) → SomeLacks fixed k (take i rs) ⊎ Lacks fixed k (get_or rs i d)
lacks_suc fixed [] i k d lt h = absurd (omega arith)
lacks_suc fixed (r ∷ rs) zero k d lt (inl h) = inr h
lacks_suc fixed (r ∷ rs) zero k d lt (inr h) = absurd h
lacks_suc fixed (r ∷ rs) (suc i) k d lt (inl h) = inl (inl h)
lacks_suc fixed (r ∷ rs) (suc i) k d lt (inr h) = elim (lacks_suc fixed rs i k d (omega arith) h) [
  | inl g ↦ inl (inr g)
  | inr g ↦ inr g
]

suc_lacks : (fixed : List (Option Bool)) (rs : List Row) (i k : ℕ) (d : Row) → i < length rs → SomeLacks fixed k (take i rs) ⊎ Lacks fixed k (get_or rs i d) → SomeLacks fixed k (take (suc i) rs)
suc_lacks fixed [] i k d lt h = absurd (omega arith)
suc_lacks fixed (r ∷ rs) zero k d lt (inl h) = absurd h
suc_lacks fixed (r ∷ rs) zero k d lt (inr h) = inl h
suc_lacks fixed (r ∷ rs) (suc i) k d lt (inl (inl h)) = inl h
suc_lacks fixed (r ∷ rs) (suc i) k d lt (inl (inr h)) = inr (suc_lacks fixed rs i k d (omega arith) (inl h))
suc_lacks fixed (r ∷ rs) (suc i) k d lt (inr h) = inr (suc_lacks fixed rs i k d (omega arith) (inr h))

pub wanted_more : (fixed : List (Option Bool)) (rs : List Row) (i : ℕ) (r : Row) (o : Option ℕ) → i < length rs → r ≡ get_or rs i r → AnswersLeast (Either (IsPreferred (take i rs) fixed) (IsPreferredBy fixed r)) o → AnswersLeast (IsPreferred (take (i + 1) rs) fixed) o
wanted_more fixed rs i r o lt e h = answers_as (Either (IsPreferred (take i rs) fixed) (IsPreferredBy fixed r)) (IsPreferred (take (i + 1) rs) fixed) o there back h
  where
    there : (k : ℕ) → IsPreferred (take i rs) fixed k ⊎ IsPreferredBy fixed r k → IsPreferred (take (i + 1) rs) fixed k
    there k (inl w) = record { free = w.free; lacks = subst (λ n. SomeLacks fixed k (take n rs)) (sym (add-one i)) (suc_lacks fixed rs i k r lt (inl w.lacks)) }
    there k (inr w) = record { free = w.free; lacks = subst (λ n. SomeLacks fixed k (take n rs)) (sym (add-one i)) (suc_lacks fixed rs i k r lt (inr (subst (Lacks fixed k) e w.lacks))) }

    back : (k : ℕ) → IsPreferred (take (i + 1) rs) fixed k → IsPreferred (take i rs) fixed k ⊎ IsPreferredBy fixed r k
    back k w = elim (lacks_suc fixed rs i k r lt (subst (λ n. SomeLacks fixed k (take n rs)) (add-one i) w.lacks)) [
      | inl g ↦ inl (record { free = w.free; lacks = g })
      | inr g ↦ inr (record { free = w.free; lacks = subst (Lacks fixed k) (sym e) g })
    ]

pub wanted_all : (fixed : List (Option Bool)) (rs : List Row) (i : ℕ) (o : Option ℕ) → length rs ≤ i → AnswersLeast (IsPreferred (take i rs) fixed) o → AnswersLeast (IsPreferred rs fixed) o
wanted_all fixed rs i o le h = subst (λ xs. AnswersLeast (IsPreferred xs fixed) o) (take_all i rs le) h

-- ---- the least unfixed column of all

free_below : (fixed : List (Option Bool)) (j k : ℕ) → ((m : ℕ) → m < j → IsFree fixed m → ⊥) → IsFree fixed k → j ≤ k
free_below fixed j k none free = elim (cases_lt k j) [
  | inl lt ↦ absurd (none k lt free)
  | inr le ↦ le
]

pub least_free_is : (fixed : List (Option Bool)) (j : ℕ) → ((m : ℕ) → m < j → IsFree fixed m → ⊥) → IsFree fixed j → IsLeast (IsFree fixed) j
least_free_is fixed j none here = record { holds = here; least = λ k free. free_below fixed j k none free }
