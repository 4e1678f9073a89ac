-- Types of words alone, tested by how many they are; and numbers that stand still, tested against small ones.
use Rattle.std.proofs.Common.{◌≡◌, ◌∙◌, refl, ap, sym, subst, ℕ, zero, suc, ◌+◌, ◌<◌, Bool, true, false, cond, ◌&&◌, eqb, Some, slice_get, arith, rules, tests}
use Rattle.std.proofs.Math.Dec.{eqb-suc-suc, eqb-zero-suc, eqb-suc-zero}
use Rattle.std.proofs.lemmas.Bool.{eqb-true, eq-eqb}
use Rattle.std.proofs.lemmas.Option.{none-some, same_Some}
use Rattle.nv_ast.specs.Types.{Ty, WordTy, BoolTy, TupleTy, RecordTy, Tys, no_tys, ty_and, same_type, same_types, total_words, word_parts, words_ty}
use Rattle.nv_ast.specs.Faults.{words_alone, can_store}
use Rattle.nv_ast.proofs.SameTypes.{same_itself, same_sound}
use Rattle.nv_types_table.specs.declared.table.Facts.{Facts}
use Rattle.nv_types_table.specs.inner.Cells.{most, still}
use Rattle.nv_types_table.specs.inner.Knowing.{AreKnown}
use Rattle.nv_types_table.specs.inner.Store.{Store, IsStore, IsType, IsParts, tuple_of}

-- numbers that are together the same as another are tested alike
pub eqb_together : (a b n m : ℕ) → (a ≡ n → b ≡ m) → (b ≡ m → a ≡ n) → eqb a n ≡ eqb b m
eqb_together a b n m f g = by (eqb a n) (eqb b m) refl refl
  where
    by : (p q : Bool) → eqb a n ≡ p → eqb b m ≡ q → p ≡ q
    by true true e h = refl
    by false false e h = refl
    by true false e h = sym (eq-eqb b m (f (eqb-true a n e))) ∙ h
    by false true e h = sym e ∙ eq-eqb a n (g (eqb-true b m h))

one_more : (a : ℕ) → 1 + a ≡ suc a
one_more a = omega arith

and_false : (a b : Bool) → b ≡ false → false ≡ (a && b)
and_false true b e = sym e
and_false false b e = refl

-- N words are a list exactly where it is of words alone and has as many
pub words_counted : (n : ℕ) (ts : Tys) → same_types (word_parts n) ts ≡ (words_alone ts && eqb (total_words ts) n)
words_counted zero no_tys = refl
words_counted zero (ty_and WordTy ts) = and_false (words_alone ts) (eqb (1 + total_words ts) 0) (ap (λ k. eqb k 0) (one_more (total_words ts)) ∙ eqb-suc-zero (total_words ts))
words_counted zero (ty_and BoolTy ts) = refl
words_counted zero (ty_and (TupleTy us) ts) = refl
words_counted zero (ty_and (RecordTy us) ts) = refl
words_counted (suc n) no_tys = sym (eqb-zero-suc n)
words_counted (suc n) (ty_and WordTy ts) = words_counted n ts ∙ ap (λ b. words_alone ts && b) (sym (ap (λ k. eqb k (suc n)) (one_more (total_words ts)) ∙ eqb-suc-suc (total_words ts) n))
words_counted (suc n) (ty_and BoolTy ts) = refl
words_counted (suc n) (ty_and (TupleTy us) ts) = refl
words_counted (suc n) (ty_and (RecordTy us) ts) = refl

not_one : (n : ℕ) → (n ≡ 1 → ⊥) → eqb n 1 ≡ false
not_one n h = search (tests, rules)

pub words_other : (n : ℕ) → (n ≡ 1 → ⊥) → words_ty n ≡ TupleTy (word_parts n)
words_other n h = ap (λ b. cond b WordTy (TupleTy (word_parts n))) (not_one n h)

pub words_one : (n : ℕ) → n ≡ 1 → words_ty n ≡ WordTy
words_one n h = ap words_ty h

-- a number that stands still is a small one exactly where it was
still_same : (m n : ℕ) → n < most → still m ≡ n → m ≡ n
still_same m n lt e = omega (arith, e, lt)

same_still : (m n : ℕ) → n < most → m ≡ n → still m ≡ n
same_still m n lt e = omega (arith, e, lt)

pub still_test : (m n : ℕ) → n < most → eqb (still m) n ≡ eqb m n
still_test m n lt = eqb_together (still m) m n n (still_same m n lt) (same_still m n lt)

-- what is known of a tuple's parts tells whether it is that of N words
pub tuple_of_words : (f : Facts) (n : ℕ) (ts : Tys) → (n ≡ 1 → ⊥) → n < most → AreKnown f ts → f.words_alone ≡ true → eqb f.words n ≡ same_type (words_ty n) (TupleTy ts)
tuple_of_words f n ts other lt k alone =
    ap (λ w. eqb w n) k.of_words
    ∙ still_test (total_words ts) n lt
    ∙ sym (words_counted n ts ∙ ap (λ b. b && eqb (total_words ts) n) (sym k.of_alone ∙ alone))
    ∙ ap (λ (t : Ty). same_type t (TupleTy ts)) (sym (words_other n other))

pub tuple_of_others : (f : Facts) (n : ℕ) (ts : Tys) → (n ≡ 1 → ⊥) → AreKnown f ts → f.words_alone ≡ false → f.words_alone ≡ same_type (words_ty n) (TupleTy ts)
tuple_of_others f n ts other k alone =
    alone
    ∙ sym (words_counted n ts ∙ ap (λ b. b && eqb (total_words ts) n) (sym k.of_alone ∙ alone))
    ∙ ap (λ (t : Ty). same_type t (TupleTy ts)) (sym (words_other n other))

pub same_turned : (t u : Ty) → same_type t u ≡ same_type u t
same_turned t u = by (same_type t u) (same_type u t) refl refl
  where
    by : (p q : Bool) → same_type t u ≡ p → same_type u t ≡ q → p ≡ q
    by true true e h = refl
    by false false e h = refl
    by true false e h = sym (same_itself t) ∙ ap (λ (x : Ty). same_type x t) (same_sound t u e) ∙ h
    by false true e h = sym e ∙ ap (λ (x : Ty). same_type x u) (sym (same_sound u t h)) ∙ same_itself u

words_alone-parts : (n : ℕ) → words_alone (word_parts n) ≡ true
words_alone-parts zero = refl
words_alone-parts (suc n) = words_alone-parts n

-- the type of N words can be stored
pub store_words : (n : ℕ) → can_store (words_ty n) ≡ true
store_words n = by (eqb n 1)
  where
    by : (b : Bool) → can_store (cond b WordTy (TupleTy (word_parts n))) ≡ true
    by true = refl
    by false = words_alone-parts n

-- the parts of a tuple's type
pub tuple_some : (s : Store) → IsStore s → (i j : ℕ) (u : Ty) → IsType s i u → tuple_of (slice_get s.cells i) ≡ Some j → (ts : Tys) × (u ≡ TupleTy ts) × IsParts s j ts
tuple_some s is i j WordTy h e = absurd (none-some j (sym (ap (λ n. tuple_of (slice_get s.cells n)) h ∙ ap tuple_of is.word) ∙ e))
tuple_some s is i j BoolTy h e = absurd (none-some j (sym (ap (λ n. tuple_of (slice_get s.cells n)) h ∙ ap tuple_of is.bool) ∙ e))
tuple_some s is i j (TupleTy ts) h e = (ts, refl, subst (λ n. IsParts s n ts) (same_Some h.0 j (sym (ap tuple_of h.1) ∙ e)) h.2)
tuple_some s is i j (RecordTy ts) h e = absurd (none-some j (sym (ap tuple_of h.1) ∙ e))
