-- What a table knows of its cells is right of the types that they stand for.
use Rattle.std.proofs.Common.{◌≡◌, ◌∙◌, refl, ap, sym, subst, ℕ, Bool, false, ◌&&◌, ◌||◌, eqb, List, [], ◌∷◌, Some, slice_get, arith, rules, tests}
use Rattle.std.proofs.lemmas.Option.{same_Some}
use Rattle.nv_ast.specs.Types.{Ty, WordTy, BoolTy, TupleTy, RecordTy, Tys, no_tys, ty_and, NamedTys, no_named_tys, named_ty_and, same_type, has_bool}
use Rattle.nv_types_table.specs.declared.table.Facts.{Facts}
use Rattle.nv_types_table.specs.declared.table.Cell.{Cell}
use Rattle.nv_types_table.specs.declared.table.Cell.TheVariants.{Word, Bool as BoolCell, NoParts, Tuple, Record, Part}
use Rattle.nv_types_table.specs.inner.Cells.{fact_at, over, with_front, IsTable}
use Rattle.nv_types_table.specs.inner.Store.{IsType, IsParts, IsFields, AreFieldCells}
use Rattle.nv_types_table.proofs.KnownRows.{fact_is, KnowCells, known_row}
use Rattle.nv_types_table.specs.inner.Knowing.{IsKnown, AreKnown, KnowsFields}

not_zero : (i : ℕ) → (i ≡ 0 → ⊥) → eqb i 0 ≡ false
not_zero i h = search (tests, rules)

other_than_word : (cells : List Cell) (i : ℕ) (c : Cell) → slice_get cells 0 ≡ Some Word → slice_get cells i ≡ Some c → (Word ≡ c → ⊥) → eqb i 0 ≡ false
other_than_word cells i c word h other = not_zero i (λ e. other (same_Some Word c (sym word ∙ ap (slice_get cells) (sym e) ∙ h)))

-- a number is that of words exactly where its type is
pub word_test : (names : List (List ℕ)) (cells : List Cell) (facts : List Facts) → IsTable names cells facts → (i : ℕ) (t : Ty) → IsType (record { names = names; cells = cells }) i t → eqb i 0 ≡ same_type t WordTy
word_test names cells facts is i WordTy h = ap (λ n. eqb n 0) h
word_test names cells facts is i BoolTy h = ap (λ n. eqb n 0) h
word_test names cells facts is i (TupleTy ts) h = other_than_word cells i (Tuple h.0) is.word h.1 (λ e. cc)
word_test names cells facts is i (RecordTy ts) h = other_than_word cells i (Record h.0) is.word h.1 (λ e. cc)

over_known : (f g : Facts) (ts : Tys) → f ≡ over g → AreKnown g ts → IsKnown f (TupleTy ts)
over_known f g ts e k = subst (λ (x : Facts). IsKnown x (TupleTy ts)) (sym e) (record { of_words = k.of_words; of_height = omega (arith, k.of_height); of_bool = k.of_bool })

over_fields : (f g : Facts) (ts : NamedTys) → f ≡ over g → KnowsFields g ts → IsKnown f (RecordTy ts)
over_fields f g ts e k = subst (λ (x : Facts). IsKnown x (RecordTy ts)) (sym e) (record { of_words = k.of_words; of_height = omega (arith, k.of_height); of_bool = k.of_bool })

front_known : (f g rest : Facts) (b : Bool) (t : Ty) (ts : Tys) → f ≡ with_front b g rest → b ≡ same_type t WordTy → IsKnown g t → AreKnown rest ts → AreKnown f (ty_and t ts)
front_known f g rest b t ts e word k all = subst (λ (x : Facts). AreKnown x (ty_and t ts)) (sym e) (record {
  of_words = omega (arith, k.of_words, all.of_words);
  of_height = omega (arith, k.of_height, all.of_height);
  of_bool = ap (λ c. c || rest.has_bool) k.of_bool ∙ ap (λ c. has_bool t || c) all.of_bool;
  of_alone = ap (λ c. c && rest.words_alone) word ∙ ap (λ c. same_type t WordTy && c) all.of_alone;
})

mutual
  pub known_type : (names : List (List ℕ)) (cells : List Cell) (facts : List Facts) → IsTable names cells facts → (i : ℕ) (t : Ty) → IsType (record { names = names; cells = cells }) i t → IsKnown (fact_at facts i) t
  known_type names cells facts is i WordTy h = subst (λ (f : Facts). IsKnown f WordTy) (sym (ap (fact_at facts) h ∙ fact_is names cells facts is 0 Word is.word)) (record { of_words = refl; of_height = refl; of_bool = refl })
  known_type names cells facts is i BoolTy h = subst (λ (f : Facts). IsKnown f BoolTy) (sym (ap (fact_at facts) h ∙ fact_is names cells facts is 1 BoolCell is.bool)) (record { of_words = refl; of_height = refl; of_bool = refl })
  known_type names cells facts is i (TupleTy ts) h = over_known _ _ ts (fact_is names cells facts is i (Tuple h.0) h.1) (known_parts names cells facts is h.0 ts h.2)
  known_type names cells facts is i (RecordTy ts) h = over_fields _ _ ts (fact_is names cells facts is i (Record h.0) h.1) (known_row names cells facts is h.0 h.2.0 ts h.2.1 (known_cells names cells facts is h.2.0 ts h.2.2))

  pub known_parts : (names : List (List ℕ)) (cells : List Cell) (facts : List Facts) → IsTable names cells facts → (i : ℕ) (ts : Tys) → IsParts (record { names = names; cells = cells }) i ts → AreKnown (fact_at facts i) ts
  known_parts names cells facts is i no_tys h = subst (λ (f : Facts). AreKnown f no_tys) (sym (ap (fact_at facts) h ∙ fact_is names cells facts is 2 NoParts is.no_parts)) (record { of_words = refl; of_height = refl; of_bool = refl; of_alone = refl })
  known_parts names cells facts is i (ty_and t ts) h =
      front_known _ (fact_at facts h.0) (fact_at facts h.1) (eqb h.0 0) t ts (fact_is names cells facts is i (Part h.0 h.1) h.2) (word_test names cells facts is h.0 t h.3)
      (known_type names cells facts is h.0 t h.3) (known_parts names cells facts is h.1 ts h.4)

  pub known_cells : (names : List (List ℕ)) (cells : List Cell) (facts : List Facts) → IsTable names cells facts → (ps : List (ℕ × ℕ)) (ts : NamedTys) → AreFieldCells (record { names = names; cells = cells }) ps ts → KnowCells facts ps ts
  known_cells names cells facts is [] no_named_tys h = tt
  known_cells names cells facts is [] (named_ty_and x t ts) h = absurd h
  known_cells names cells facts is (p ∷ ps) no_named_tys h = absurd h
  known_cells names cells facts is (p ∷ ps) (named_ty_and x t ts) h = (known_type names cells facts is p.1 t h.1, known_cells names cells facts is ps ts h.2)

pub known_fields : (names : List (List ℕ)) (cells : List Cell) (facts : List Facts) → IsTable names cells facts → (i : ℕ) (ts : NamedTys) → IsFields (record { names = names; cells = cells }) i ts → KnowsFields (fact_at facts i) ts
known_fields names cells facts is i ts h = known_row names cells facts is i h.0 ts h.1 (known_cells names cells facts is h.0 ts h.2)
