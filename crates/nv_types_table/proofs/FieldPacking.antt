-- Fields that are packed by forms, one after another.
use Rattle.std.proofs.Common.{◌≡◌, ◌∙◌, refl, ap, sym, subst, ℕ, suc, Bool, true, false, true≢false, cond, ◌&&◌, ◌||◌, eqb, bytes_eq, length, get_or, drop, ◌+◌, ◌<◌, ◌≤◌, List, [], ◌∷◌, ◌++◌, Option, None, Some, slice_get, Result, arith}
use Rattle.std.specs.Result.{IfOk}
use Rattle.std.proofs.Math.ListN.{drop_of_length-le}
use Rattle.std.proofs.Math.Seq.{drop-cons}
use Rattle.nv_ast.specs.Types.{Ty, RecordTy, NamedTys, no_named_tys, named_ty_and, Form, ChoiceForm, Forms, no_forms, form_and, can_pack, can_pack_all, can_pack_one}
use Rattle.nv_types_table.specs.declared.table.Cell.{Cell}
use Rattle.nv_types_table.specs.declared.table.Cell.TheVariants.{Field}
use Rattle.nv_types_table.specs.inner.Rows.{field_with}
use Rattle.nv_types_table.specs.inner.Store.{Store, IsStore, IsRow, IsType, IsFields, IsForm, IsForms, AreFieldCells, AreFormCells}
use Rattle.nv_types_table.proofs.RowNumbers.{row_one}
use Rattle.nv_types_table.proofs.FieldWalks.{number_name}
use Rattle.std.specs.List.{list_any}
use Rattle.std.proofs.lemmas.Bool.{eqb-true, false≢true, and_parts}
use Rattle.std.proofs.lemmas.List.Elements.{All-head, All-tail, All-same, All-push}
use Rattle.nv_types_table.specs.inner.Knowing.{ArePacked}

-- the cells of a list
abbrev pub HasCells : Store → ℕ → List (ℕ × ℕ) → Type 0
HasCells s i ps = (qs : List (ℕ × ℕ)) → IsRow s i qs → ps ≡ qs

form_cells : (s : Store) (i : ℕ) (ps : List (ℕ × ℕ)) → HasCells s i ps → (fs : Forms) → IsForms s i fs → AreFormCells s ps fs
form_cells s i ps cells fs h = subst (λ l. AreFormCells s l fs) (sym (cells h.0 h.1)) h.2

field_cells : (s : Store) (i : ℕ) (ps : List (ℕ × ℕ)) → HasCells s i ps → (ts : NamedTys) → IsFields s i ts → AreFieldCells s ps ts
field_cells s i ps cells ts h = subst (λ l. AreFieldCells s l ts) (sym (cells h.0 h.1)) h.2

-- ---- what is left of the fields is packed by what is left of the forms exactly where all are by all
abbrev pub PackSo : Store → ℕ → ℕ → List (ℕ × ℕ) → List (ℕ × ℕ) → Type 0
PackSo s forms fields ps qs = (fs : Forms) (ts : NamedTys) → IsForms s forms fs → IsFields s fields ts
    → (gs : Forms) × (us : NamedTys) × AreFormCells s ps gs × AreFieldCells s qs us × (can_pack_all fs ts ≡ can_pack_all gs us)

pub pack_start : (s : Store) (forms fields : ℕ) (ps qs : List (ℕ × ℕ)) → HasCells s forms ps → HasCells s fields qs → PackSo s forms fields ps qs
pack_start s forms fields ps qs a b fs ts h k = (fs, ts, form_cells s forms ps a fs h, field_cells s fields qs b ts k, refl)

-- nothing is left
pub pack_end : (s : Store) (forms fields : ℕ) (ps qs : List (ℕ × ℕ)) (i : ℕ) → length ps ≤ i → length qs ≤ i → PackSo s forms fields (drop i ps) (drop i qs)
    → (fs : Forms) (ts : NamedTys) → IsForms s forms fs → IsFields s fields ts → true ≡ can_pack_all fs ts
pack_end s forms fields ps qs i past along so fs ts h k =
    let v = so fs ts h k in
    by v.0 v.1 (subst (λ l. AreFormCells s l v.0) (drop_of_length-le ps past) v.2) (subst (λ l. AreFieldCells s l v.1) (drop_of_length-le qs along) v.3) ∙ sym v.4
  where
    by : (gs : Forms) (us : NamedTys) → AreFormCells s [] gs → AreFieldCells s [] us → true ≡ can_pack_all gs us
    by no_forms no_named_tys a b = refl
    by (form_and x f gs) us a b = absurd a
    by no_forms (named_ty_and x t us) a b = absurd b

-- so many forms aren't so many fields
pack_lengths : (s : Store) (ps qs : List (ℕ × ℕ)) → (length ps ≡ length qs → ⊥) → (fs : Forms) (ts : NamedTys) → AreFormCells s ps fs → AreFieldCells s qs ts → false ≡ can_pack_all fs ts
pack_lengths s [] [] n fs ts h k = absurd (n refl)
pack_lengths s [] (q ∷ qs) n no_forms (named_ty_and y t ts) h k = refl
pack_lengths s [] (q ∷ qs) n no_forms no_named_tys h k = absurd k
pack_lengths s [] (q ∷ qs) n (form_and x f fs) ts h k = absurd h
pack_lengths s (p ∷ ps) [] n (form_and x f fs) no_named_tys h k = refl
pack_lengths s (p ∷ ps) [] n (form_and x f fs) (named_ty_and y t ts) h k = absurd k
pack_lengths s (p ∷ ps) [] n no_forms ts h k = absurd h
pack_lengths s (p ∷ ps) (q ∷ qs) n no_forms ts h k = absurd h
pack_lengths s (p ∷ ps) (q ∷ qs) n (form_and x f fs) no_named_tys h k = absurd k
pack_lengths s (p ∷ ps) (q ∷ qs) n (form_and x f fs) (named_ty_and y t ts) h k = by (bytes_eq x y) (can_pack f t) (pack_lengths s ps qs (λ e. n (ap suc e)) fs ts h.2 k.2)
  where
    by : (a b : Bool) → false ≡ can_pack_all fs ts → false ≡ (a && (b && can_pack_all fs ts))
    by true true e = e
    by true false e = refl
    by false b e = refl

pub pack_short : (s : Store) (forms fields : ℕ) (ps qs : List (ℕ × ℕ)) → HasCells s forms ps → HasCells s fields qs → (length ps ≡ length qs → ⊥)
    → (fs : Forms) (ts : NamedTys) → IsForms s forms fs → IsFields s fields ts → false ≡ can_pack_all fs ts
pack_short s forms fields ps qs a b n fs ts h k = pack_lengths s ps qs n fs ts (form_cells s forms ps a fs h) (field_cells s fields qs b ts k)

-- a form and a field
first_form : (s : Store) (p : ℕ × ℕ) (ps : List (ℕ × ℕ)) (fs : Forms) → AreFormCells s (p ∷ ps) fs
    → (x : List ℕ) × (f : Form) × (gs : Forms) × (fs ≡ form_and x f gs) × (slice_get s.names p.0 ≡ Some x) × IsForm s p.1 f × AreFormCells s ps gs
first_form s p ps no_forms h = absurd h
first_form s p ps (form_and x f fs) h = (x, f, fs, refl, h.0, h.1, h.2)

first_field : (s : Store) (p : ℕ × ℕ) (ps : List (ℕ × ℕ)) (ts : NamedTys) → AreFieldCells s (p ∷ ps) ts
    → (x : List ℕ) × (t : Ty) × (us : NamedTys) × (ts ≡ named_ty_and x t us) × (slice_get s.names p.0 ≡ Some x) × IsType s p.1 t × AreFieldCells s ps us
first_field s p ps no_named_tys h = absurd h
first_field s p ps (named_ty_and x t ts) h = (x, t, ts, refl, h.0, h.1, h.2)

drop_here : (ps : List (ℕ × ℕ)) (i : ℕ) (p : ℕ × ℕ) → i < length ps → p ≡ get_or ps i p → drop i ps ≡ p ∷ drop (i + 1) ps
drop_here ps i p inside at =
    let next : suc i ≡ i + 1 = omega arith in
    drop-cons ps i p inside ∙ ap (λ x. x ∷ drop (suc i) ps) (sym at) ∙ ap (λ n. p ∷ drop n ps) next

pub pack_here : (s : Store) (forms fields : ℕ) (ps qs : List (ℕ × ℕ)) (i : ℕ) (p q : ℕ × ℕ) → i < length ps → i < length qs → p ≡ get_or ps i p → q ≡ get_or qs i q
    → PackSo s forms fields (drop i ps) (drop i qs) → PackSo s forms fields (p ∷ drop (i + 1) ps) (q ∷ drop (i + 1) qs)
pack_here s forms fields ps qs i p q inside along at here so =
    subst (λ l. PackSo s forms fields l (q ∷ drop (i + 1) qs)) (drop_here ps i p inside at) (subst (λ l. PackSo s forms fields (drop i ps) l) (drop_here qs i q along here) so)

pack_both : (s : Store) → IsStore s → (forms fields : ℕ) (p q : ℕ × ℕ) (ps qs : List (ℕ × ℕ)) → PackSo s forms fields (p ∷ ps) (q ∷ qs)
    → (fs : Forms) (ts : NamedTys) → IsForms s forms fs → IsFields s fields ts
    → (f : Form) × (u : Ty) × (gs : Forms) × (us : NamedTys) × IsForm s p.1 f × IsType s q.1 u × AreFormCells s ps gs × AreFieldCells s qs us × (can_pack_all fs ts ≡ (eqb p.0 q.0 && (can_pack f u && can_pack_all gs us)))
pack_both s is forms fields p q ps qs so fs ts h k =
    let v = so fs ts h k in
    let a = first_form s p ps v.0 v.2 in
    let b = first_field s q qs v.1 v.3 in (
      a.1,
      b.1,
      a.2,
      b.2,
      a.5,
      b.5,
      a.6,
      b.6,
      v.4 ∙ ap (λ (g : Forms). can_pack_all g v.1) a.3 ∙ ap (can_pack_all (form_and a.0 a.1 a.2)) b.3
          ∙ ap (λ t. t && (can_pack a.1 b.1 && can_pack_all a.2 b.2)) (sym (number_name s is p.0 q.0 a.0 b.0 a.4 b.4)),
    )

pub pack_other : (s : Store) → IsStore s → (forms fields : ℕ) (p q : ℕ × ℕ) (ps qs : List (ℕ × ℕ)) → PackSo s forms fields (p ∷ ps) (q ∷ qs)
    → eqb p.0 q.0 ≡ false → (fs : Forms) (ts : NamedTys) → IsForms s forms fs → IsFields s fields ts → false ≡ can_pack_all fs ts
pack_other s is forms fields p q ps qs so differs fs ts h k =
    let v = pack_both s is forms fields p q ps qs so fs ts h k in
    sym (v.8 ∙ ap (λ b. b && (can_pack v.0 v.1 && can_pack_all v.2 v.3)) differs)

pub pack_wrong : (s : Store) → IsStore s → (forms fields : ℕ) (p q : ℕ × ℕ) (ps qs : List (ℕ × ℕ)) → PackSo s forms fields (p ∷ ps) (q ∷ qs)
    → eqb p.0 q.0 ≡ true → ((f : Form) (u : Ty) → IsForm s p.1 f → IsType s q.1 u → false ≡ can_pack f u) → (fs : Forms) (ts : NamedTys) → IsForms s forms fs → IsFields s fields ts → false ≡ can_pack_all fs ts
pack_wrong s is forms fields p q ps qs so same wrong fs ts h k =
    let v = pack_both s is forms fields p q ps qs so fs ts h k in
    sym (v.8 ∙ ap (λ b. b && (can_pack v.0 v.1 && can_pack_all v.2 v.3)) same ∙ ap (λ b. b && can_pack_all v.2 v.3) (sym (wrong v.0 v.1 v.4 v.5)))

pub pack_next : (s : Store) → IsStore s → (forms fields : ℕ) (p q : ℕ × ℕ) (ps qs : List (ℕ × ℕ)) → PackSo s forms fields (p ∷ ps) (q ∷ qs)
    → eqb p.0 q.0 ≡ true → ((f : Form) (u : Ty) → IsForm s p.1 f → IsType s q.1 u → true ≡ can_pack f u) → PackSo s forms fields ps qs
pack_next s is forms fields p q ps qs so same right fs ts h k =
    let v = pack_both s is forms fields p q ps qs so fs ts h k in
    (v.2, v.3, v.6, v.7, v.8 ∙ ap (λ b. b && (can_pack v.0 v.1 && can_pack_all v.2 v.3)) same ∙ ap (λ b. b && can_pack_all v.2 v.3) (sym (right v.0 v.1 v.4 v.5)))

-- ---- the form of some with a name: what is packed by it
abbrev OneSo : Store → Ty → Option ℕ → Bool → Type 0
OneSo s u None v = false ≡ v
OneSo s u (Some j) v = (f : Form) × IsForm s j f × (v ≡ can_pack f u)

one_so : (s : Store) → IsStore s → (n : ℕ) (x : List ℕ) (u : Ty) → slice_get s.names n ≡ Some x → (ps : List (ℕ × ℕ)) (fs : Forms) → AreFormCells s ps fs → OneSo s u (field_with n ps) (can_pack_one fs x u)
one_so s is n x u at [] no_forms h = refl
one_so s is n x u at [] (form_and y f fs) h = absurd h
one_so s is n x u at (p ∷ ps) no_forms h = absurd h
one_so s is n x u at (p ∷ ps) (form_and y f fs) h = by (eqb p.0 n) (bytes_eq y x) (number_name s is p.0 n y x h.0 at) (field_with n ps) (one_so s is n x u at ps fs h.2)
  where
    by : (a b : Bool) → a ≡ b → (o : Option ℕ) → OneSo s u o (can_pack_one fs x u) → OneSo s u (cond a (Some p.1) o) (cond b (can_pack f u) (can_pack_one fs x u))
    by true true e o rest = (f, h.1, refl)
    by false false e o rest = rest
    by true false e o rest = absurd (true≢false e)
    by false true e o rest = absurd (false≢true e)

found_so : (s : Store) → IsStore s → (forms n : ℕ) (o : Option ℕ) → ((ps : List (ℕ × ℕ)) → IsRow s forms ps → o ≡ field_with n ps)
    → (fs : Forms) (x : List ℕ) (u : Ty) → IsForms s forms fs → slice_get s.names n ≡ Some x → OneSo s u o (can_pack_one fs x u)
found_so s is forms n o found fs x u h at = subst (λ a. OneSo s u a (can_pack_one fs x u)) (sym (found h.0 h.1)) (one_so s is n x u at h.0 fs h.2)

pub one_none : (s : Store) → IsStore s → (forms n t : ℕ) → ((ps : List (ℕ × ℕ)) → IsRow s forms ps → None ≡ field_with n ps)
    → (fs : Forms) (x : List ℕ) (u : Ty) → IsForms s forms fs → slice_get s.names n ≡ Some x → IsType s t u → false ≡ can_pack_one fs x u
one_none s is forms n t found fs x u h at k = found_so s is forms n None found fs x u h at

pub one_some : {E : Type 0} (s : Store) → IsStore s → (forms n t j : ℕ) (r : Result Bool E) → ((ps : List (ℕ × ℕ)) → IsRow s forms ps → Some j ≡ field_with n ps)
    → ((f : Form) (u : Ty) → IsForm s j f → IsType s t u → IfOk r (λ b. b ≡ can_pack f u))
    → (fs : Forms) (x : List ℕ) (u : Ty) → IsForms s forms fs → slice_get s.names n ≡ Some x → IsType s t u → IfOk r (λ b. b ≡ can_pack_one fs x u)
one_some s is forms n t j r found packs fs x u h at k =
    let v = found_so s is forms n (Some j) found fs x u h at in
    subst (λ a. IfOk r (λ b. b ≡ a)) (sym v.2) (packs v.0 u v.1 k)

-- ---- a choice packs a record of one field
single_field : (s : Store) (n t : ℕ) (ts : NamedTys) → AreFieldCells s ((n, t) ∷ []) ts → (x : List ℕ) × (u : Ty) × (ts ≡ named_ty_and x u no_named_tys) × (slice_get s.names n ≡ Some x) × IsType s t u
single_field s n t no_named_tys h = absurd h
single_field s n t (named_ty_and x u no_named_tys) h = (x, u, refl, h.0, h.1)
single_field s n t (named_ty_and x u (named_ty_and y v ts)) h = absurd h.2

pub choice_one : {E : Type 0} (s : Store) → IsStore s → (forms fields n t : ℕ) (r : Result Bool E) → slice_get s.cells fields ≡ Some (Field n t)
    → ((fs : Forms) (x : List ℕ) (u : Ty) → IsForms s forms fs → slice_get s.names n ≡ Some x → IsType s t u → IfOk r (λ b. b ≡ can_pack_one fs x u))
    → (fs : Forms) (ts : NamedTys) → IsForms s forms fs → IsFields s fields ts → IfOk r (λ b. b ≡ can_pack (ChoiceForm fs) (RecordTy ts))
choice_one s is forms fields n t r at one fs ts h k =
    let v = single_field s n t ts (subst (λ l. AreFieldCells s l ts) (row_one s is fields k.0 ((n, t) ∷ []) k.1 at) k.2) in
    subst (λ (l : NamedTys). IfOk r (λ b. b ≡ can_pack (ChoiceForm fs) (RecordTy l))) (sym v.2) (one fs v.0 v.1 h v.3 v.4)

-- another list has no field or some
abbrev pub is_field_cell : Option Cell → Bool
is_field_cell (Some (Field n t)) = true
is_field_cell _ = false

other_fields : (s : Store) (fields : ℕ) → is_field_cell (slice_get s.cells fields) ≡ false → (fs : Forms) (ps : List (ℕ × ℕ)) (ts : NamedTys) → IsRow s fields ps → AreFieldCells s ps ts → false ≡ can_pack (ChoiceForm fs) (RecordTy ts)
other_fields s fields other fs ps no_named_tys h k = refl
other_fields s fields other fs [] (named_ty_and x t no_named_tys) h k = absurd k
other_fields s fields other fs (p ∷ []) (named_ty_and x t no_named_tys) h k = absurd (true≢false (sym (ap is_field_cell h) ∙ other))
other_fields s fields other fs (p ∷ q ∷ ps) (named_ty_and x t no_named_tys) h k = absurd k.2
other_fields s fields other fs ps (named_ty_and x t (named_ty_and y u ts)) h k = refl

pub choice_none : (s : Store) (forms fields : ℕ) → is_field_cell (slice_get s.cells fields) ≡ false
    → (fs : Forms) (ts : NamedTys) → IsForms s forms fs → IsFields s fields ts → false ≡ can_pack (ChoiceForm fs) (RecordTy ts)
choice_none s forms fields other fs ts h k = other_fields s fields other fs k.0 ts k.1 k.2

-- ---- pairs of which it is known
abbrev pub IsPackedPair : Store → ℕ × ℕ → Type 0
IsPackedPair s p = (f : Form) (u : Ty) → IsForm s p.0 f → IsType s p.1 u → can_pack f u ≡ true

pub packed_there : (s : Store) (test : ℕ × ℕ → Bool) (n m : ℕ) → ((k : ℕ × ℕ) → test k ≡ true → (k.0 ≡ n) × (k.1 ≡ m)) → (keys : List (ℕ × ℕ)) → list_any test keys ≡ true → ArePacked s keys
    → (f : Form) (u : Ty) → IsForm s n f → IsType s m u → can_pack f u ≡ true
packed_there s test n m same [] there all f u h k = absurd (false≢true there)
packed_there s test n m same (x ∷ xs) there all f u h k = by (test x) refl (λ e. packed_there s test n m same xs (sym (ap (λ b. b || list_any test xs) e) ∙ there) (All-tail (IsPackedPair s) x xs all) f u h k)
  where
    by : (b : Bool) → test x ≡ b → (test x ≡ false → can_pack f u ≡ true) → can_pack f u ≡ true
    by true e rest =
        let both = same x e in
        All-head (IsPackedPair s) x xs all f u (subst (λ i. IsForm s i f) (sym both.0) h) (subst (λ i. IsType s i u) (sym both.1) k)
    by false e rest = rest e

pub packed_more : (s : Store) (keys new : List (ℕ × ℕ)) (p : ℕ × ℕ) (b : Bool) → new ≡ cond b keys (keys ++ p ∷ []) → ArePacked s keys → IsPackedPair s p → ArePacked s new
packed_more s keys new p true e all here = All-same (IsPackedPair s) new keys e all
packed_more s keys new p false e all here = All-same (IsPackedPair s) new (keys ++ p ∷ []) e (All-push (IsPackedPair s) keys p all here)

pub pair_same : (n m : ℕ) (k : ℕ × ℕ) → (eqb n k.0 && eqb m k.1) ≡ true → (k.0 ≡ n) × (k.1 ≡ m)
pair_same n m k h = let p = and_parts (eqb n k.0) (eqb m k.1) h in (sym (eqb-true n k.0 p.0), sym (eqb-true m k.1 p.1))
