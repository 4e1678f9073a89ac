-- A type has one number, and a number one type; so numbers are the same exactly where types are.
use Rattle.std.proofs.Common.{◌≡◌, ◌∙◌, refl, ap, sym, subst, ℕ, Bool, true, false, eqb, List, [], ◌∷◌, Some, slice_get, arith}
use Rattle.std.proofs.lemmas.Option.{same_Some}
use Rattle.std.proofs.lemmas.Bool.{eqb-true, eq-eqb}
use Rattle.nv_ast.specs.Types.{Ty, WordTy, BoolTy, TupleTy, RecordTy, Tys, no_tys, ty_and, NamedTys, no_named_tys, named_ty_and, same_type}
use Rattle.nv_ast.proofs.SameTypes.{same_itself, same_sound}
use Rattle.nv_types_table.specs.declared.table.Cell.{Cell}
use Rattle.nv_types_table.specs.declared.table.Cell.TheVariants.{Word, Bool as BoolCell, NoParts, Tuple, Record, Part}
use Rattle.nv_types_table.specs.inner.Store.{Store, IsStore, IsType, IsParts, IsRow, AreFieldCells}
use Rattle.nv_types_table.proofs.RowNumbers.{row_same, row_one}

one_cell : (cells : List Cell) (i j : ℕ) (a b : Cell) → i ≡ j → slice_get cells j ≡ Some a → slice_get cells i ≡ Some b → a ≡ b
one_cell cells i j a b e h k = same_Some a b (sym h ∙ ap (slice_get cells) (sym e) ∙ k)

tuple_parts_one : (a b : ℕ) → Tuple a ≡ Tuple b → a ≡ b
tuple_parts_one a b e = cc

record_fields_one : (a b : ℕ) → Record a ≡ Record b → a ≡ b
record_fields_one a b e = cc

part_first : (a b x y : ℕ) → Part a b ≡ Part x y → a ≡ x
part_first a b x y e = cc

part_rest : (a b x y : ℕ) → Part a b ≡ Part x y → b ≡ y
part_rest a b x y e = cc

one_name_at : (names : List (List ℕ)) (i j : ℕ) (x y : List ℕ) → i ≡ j → slice_get names i ≡ Some x → slice_get names j ≡ Some y → x ≡ y
one_name_at names i j x y e h k = same_Some x y (sym h ∙ ap (slice_get names) e ∙ k)

mutual
  pub type_one : (s : Store) → IsStore s → (i : ℕ) (t u : Ty) → IsType s i t → IsType s i u → t ≡ u
  type_one s is i WordTy WordTy h k = refl
  type_one s is i WordTy BoolTy h k = absurd (omega (arith, h, k))
  type_one s is i WordTy (TupleTy us) h k = let e : Word ≡ Tuple k.0 = one_cell s.cells i 0 Word (Tuple k.0) h is.word k.1 in cc
  type_one s is i WordTy (RecordTy us) h k = let e : Word ≡ Record k.0 = one_cell s.cells i 0 Word (Record k.0) h is.word k.1 in cc
  type_one s is i BoolTy WordTy h k = absurd (omega (arith, h, k))
  type_one s is i BoolTy BoolTy h k = refl
  type_one s is i BoolTy (TupleTy us) h k = let e : BoolCell ≡ Tuple k.0 = one_cell s.cells i 1 BoolCell (Tuple k.0) h is.bool k.1 in cc
  type_one s is i BoolTy (RecordTy us) h k = let e : BoolCell ≡ Record k.0 = one_cell s.cells i 1 BoolCell (Record k.0) h is.bool k.1 in cc
  type_one s is i (TupleTy ts) WordTy h k = let e : Word ≡ Tuple h.0 = one_cell s.cells i 0 Word (Tuple h.0) k is.word h.1 in cc
  type_one s is i (TupleTy ts) BoolTy h k = let e : BoolCell ≡ Tuple h.0 = one_cell s.cells i 1 BoolCell (Tuple h.0) k is.bool h.1 in cc
  type_one s is i (TupleTy ts) (TupleTy us) h k =
      ap TupleTy (parts_one s is h.0 ts us h.2 (subst (λ j. IsParts s j us) (sym (tuple_parts_one h.0 k.0 (one_cell s.cells i i (Tuple h.0) (Tuple k.0) refl h.1 k.1))) k.2))
  type_one s is i (TupleTy ts) (RecordTy us) h k = let e : Tuple h.0 ≡ Record k.0 = one_cell s.cells i i (Tuple h.0) (Record k.0) refl h.1 k.1 in cc
  type_one s is i (RecordTy ts) WordTy h k = let e : Word ≡ Record h.0 = one_cell s.cells i 0 Word (Record h.0) k is.word h.1 in cc
  type_one s is i (RecordTy ts) BoolTy h k = let e : BoolCell ≡ Record h.0 = one_cell s.cells i 1 BoolCell (Record h.0) k is.bool h.1 in cc
  type_one s is i (RecordTy ts) (TupleTy us) h k = let e : Record h.0 ≡ Tuple k.0 = one_cell s.cells i i (Record h.0) (Tuple k.0) refl h.1 k.1 in cc
  type_one s is i (RecordTy ts) (RecordTy us) h k =
      let same = record_fields_one h.0 k.0 (one_cell s.cells i i (Record h.0) (Record k.0) refl h.1 k.1) in
      let row = row_one s is h.0 h.2.0 k.2.0 h.2.1 (subst (λ j. IsRow s j k.2.0) (sym same) k.2.1) in
      ap RecordTy (cells_one s is h.2.0 ts us h.2.2 (subst (λ ps. AreFieldCells s ps us) (sym row) k.2.2))

  pub parts_one : (s : Store) → IsStore s → (i : ℕ) (ts us : Tys) → IsParts s i ts → IsParts s i us → ts ≡ us
  parts_one s is i no_tys no_tys h k = refl
  parts_one s is i no_tys (ty_and u us) h k = let e : NoParts ≡ Part k.0 k.1 = one_cell s.cells i 2 NoParts (Part k.0 k.1) h is.no_parts k.2 in cc
  parts_one s is i (ty_and t ts) no_tys h k = let e : NoParts ≡ Part h.0 h.1 = one_cell s.cells i 2 NoParts (Part h.0 h.1) k is.no_parts h.2 in cc
  parts_one s is i (ty_and t ts) (ty_and u us) h k =
      let e = one_cell s.cells i i (Part h.0 h.1) (Part k.0 k.1) refl h.2 k.2 in
      let first = type_one s is h.0 t u h.3 (subst (λ j. IsType s j u) (sym (part_first h.0 h.1 k.0 k.1 e)) k.3) in
      let rest = parts_one s is h.1 ts us h.4 (subst (λ j. IsParts s j us) (sym (part_rest h.0 h.1 k.0 k.1 e)) k.4) in
      ap (λ (x : Ty). ty_and x ts) first ∙ ap (ty_and u) rest

  pub cells_one : (s : Store) → IsStore s → (ps : List (ℕ × ℕ)) (ts us : NamedTys) → AreFieldCells s ps ts → AreFieldCells s ps us → ts ≡ us
  cells_one s is [] no_named_tys no_named_tys h k = refl
  cells_one s is [] no_named_tys (named_ty_and y u us) h k = absurd k
  cells_one s is [] (named_ty_and x t ts) us h k = absurd h
  cells_one s is (p ∷ ps) no_named_tys us h k = absurd h
  cells_one s is (p ∷ ps) (named_ty_and x t ts) no_named_tys h k = absurd k
  cells_one s is (p ∷ ps) (named_ty_and x t ts) (named_ty_and y u us) h k =
      let name = one_name_at s.names p.0 p.0 x y refl h.0 k.0 in
      let first = type_one s is p.1 t u h.1 k.1 in
      let rest = cells_one s is ps ts us h.2 k.2 in
      ap (λ (z : List ℕ). named_ty_and z t ts) name ∙ ap (λ (z : Ty). named_ty_and y z ts) first ∙ ap (named_ty_and y u) rest

mutual
  pub number_one : (s : Store) → IsStore s → (i j : ℕ) (t : Ty) → IsType s i t → IsType s j t → i ≡ j
  number_one s is i j WordTy h k = h ∙ sym k
  number_one s is i j BoolTy h k = h ∙ sym k
  number_one s is i j (TupleTy ts) h k = is.once i j (Tuple h.0) h.1 (k.1 ∙ ap (λ n. Some (Tuple n)) (sym (list_one s is h.0 k.0 ts h.2 k.2)))
  number_one s is i j (RecordTy ts) h k =
      let cells = cells_same s is h.2.0 k.2.0 ts h.2.2 k.2.2 in
      let list = row_same s is h.0 k.0 k.2.0 (subst (IsRow s h.0) cells h.2.1) k.2.1 in
      is.once i j (Record h.0) h.1 (k.1 ∙ ap (λ n. Some (Record n)) (sym list))

  pub list_one : (s : Store) → IsStore s → (i j : ℕ) (ts : Tys) → IsParts s i ts → IsParts s j ts → i ≡ j
  list_one s is i j no_tys h k = h ∙ sym k
  list_one s is i j (ty_and t ts) h k =
      is.once i j (Part h.0 h.1) h.2
      (k.2 ∙ ap (λ n. Some (Part n k.1)) (sym (number_one s is h.0 k.0 t h.3 k.3)) ∙ ap (λ n. Some (Part h.0 n)) (sym (list_one s is h.1 k.1 ts h.4 k.4)))

  pub cells_same : (s : Store) → IsStore s → (ps qs : List (ℕ × ℕ)) (ts : NamedTys) → AreFieldCells s ps ts → AreFieldCells s qs ts → ps ≡ qs
  cells_same s is [] [] ts h k = refl
  cells_same s is [] (q ∷ qs) no_named_tys h k = absurd k
  cells_same s is [] (q ∷ qs) (named_ty_and x t ts) h k = absurd h
  cells_same s is (p ∷ ps) qs no_named_tys h k = absurd h
  cells_same s is (p ∷ ps) [] (named_ty_and x t ts) h k = absurd k
  cells_same s is (p ∷ ps) (q ∷ qs) (named_ty_and x t ts) h k =
      ap (λ n. (n, p.1) ∷ ps) (is.one_name p.0 q.0 x h.0 k.0) ∙ ap (λ n. (q.0, n) ∷ ps) (number_one s is p.1 q.1 t h.1 k.1) ∙ ap (λ l. q ∷ l) (cells_same s is ps qs ts h.2 k.2)

pub same_number : (s : Store) → IsStore s → (i j : ℕ) (t u : Ty) → IsType s i t → IsType s j u → eqb i j ≡ same_type t u
same_number s is i j t u h k = by (eqb i j) (same_type t u) refl refl
  where
    by : (a b : Bool) → eqb i j ≡ a → same_type t u ≡ b → a ≡ b
    by true true e f = refl
    by false false e f = refl
    by true false e f = sym (sym f ∙ ap (same_type t) (sym (type_one s is j t u (subst (λ n. IsType s n t) (eqb-true i j e) h) k)) ∙ same_itself t)
    by false true e f = sym e ∙ eq-eqb i j (number_one s is i j t h (subst (IsType s j) (sym (same_sound t u f)) k))
