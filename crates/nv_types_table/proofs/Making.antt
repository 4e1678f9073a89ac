-- Types that are made of types which are there.
use Rattle.std.proofs.Common.{◌≡◌, ◌∙◌, refl, ap, subst, ℕ, List, [], ◌∷◌, Some, slice_get, Result, Ok, Err, length, drop, get_or, ◌≤◌, ◌<◌, ◌-◌, suc, arith}
use Rattle.std.proofs.Math.ListN.{drop_of_length-le}
use Rattle.std.proofs.Math.Seq.{drop-cons}
use Rattle.std.specs.Result.{IfOk, OnOk}
use Rattle.nv_base.specs.declared.error.NoMemory.{NoMemory}
use Rattle.nv_ast.specs.Types.{Ty, TupleTy, RecordTy, Tys, no_tys, ty_and, NamedTys, RecordForm, ChoiceForm, Forms}
use Rattle.nv_types_table.specs.declared.table.Cell.TheVariants.{Tuple, Record, Choice, Part}
use Rattle.nv_types_table.specs.inner.Store.{Store, Extends, IsType, IsParts, IsFields, IsForm, IsForms, AreTypes}
use Rattle.nv_types_table.proofs.Staying.{type_stays, parts_stay, fields_stay, forms_stay}

pub made_tuple : (a b : Store) (r : Result ℕ NoMemory) (j : ℕ) → IfOk r (λ i. slice_get b.cells i ≡ Some (Tuple j)) → OnOk r (Extends a b) → (ts : Tys) → IsParts a j ts → IfOk r (λ i. IsType b i (TupleTy ts))
made_tuple a b (Ok i) j at grows ts h = (j, at, parts_stay a b grows j ts h)
made_tuple a b (Err e) j at grows ts h = tt

pub made_record : (a b : Store) (r : Result ℕ NoMemory) (j : ℕ) → IfOk r (λ i. slice_get b.cells i ≡ Some (Record j)) → OnOk r (Extends a b) → (ts : NamedTys) → IsFields a j ts → IfOk r (λ i. IsType b i (RecordTy ts))
made_record a b (Ok i) j at grows ts h = (j, at, fields_stay a b grows j ts h)
made_record a b (Err e) j at grows ts h = tt

pub made_record_form : (a b : Store) (r : Result ℕ NoMemory) (j : ℕ) → IfOk r (λ i. slice_get b.cells i ≡ Some (Record j)) → OnOk r (Extends a b) → (fs : Forms) → IsForms a j fs → IfOk r (λ i. IsForm b i (RecordForm fs))
made_record_form a b (Ok i) j at grows fs h = (j, at, forms_stay a b grows j fs h)
made_record_form a b (Err e) j at grows fs h = tt

pub made_choice : (a b : Store) (r : Result ℕ NoMemory) (j : ℕ) → IfOk r (λ i. slice_get b.cells i ≡ Some (Choice j)) → OnOk r (Extends a b) → (fs : Forms) → IsForms a j fs → IfOk r (λ i. IsForm b i (ChoiceForm fs))
made_choice a b (Ok i) j at grows fs h = (j, at, forms_stay a b grows j fs h)
made_choice a b (Err e) j at grows fs h = tt

pub made_part : (a b : Store) (r : Result ℕ NoMemory) (j rest : ℕ) → IfOk r (λ i. slice_get b.cells i ≡ Some (Part j rest)) → OnOk r (Extends a b) → (t : Ty) (ts : Tys) → IsType a j t → IsParts a rest ts → IfOk r (λ i. IsParts b i (ty_and t ts))
made_part a b (Ok i) j rest at grows t ts h k = (j, rest, at, type_stays a b grows j t h, parts_stay a b grows rest ts k)
made_part a b (Err e) j rest at grows t ts h k = tt

-- ---- lists, from their ends
pub parts_step : (a s b : Store) (xs front : List ℕ) (x list j : ℕ) → front ≡ x ∷ xs → Extends a s → ((ts : Tys) → AreTypes a xs ts → IsParts s list ts)
    → ((t : Ty) (ts : Tys) → IsType s x t → IsParts s list ts → IsParts b j (ty_and t ts)) → (ts : Tys) → AreTypes a front ts → IsParts b j ts
parts_step a s b xs front x list j e grows old new ts h = by ts (subst (λ (l : List ℕ). AreTypes a l ts) e h)
  where
    by : (us : Tys) → AreTypes a (x ∷ xs) us → IsParts b j us
    by no_tys k = absurd k
    by (ty_and t us) k = new t us (type_stays a s grows x t k.0) (old us k.1)

pub parts_start : (a : Store) (xs : List ℕ) (n : ℕ) → length xs ≤ n → (ts : Tys) → AreTypes a (drop n xs) ts → IsParts a 2 ts
parts_start a xs n le ts h = by ts (subst (λ (l : List ℕ). AreTypes a l ts) (drop_of_length-le xs le) h)
  where
    by : (us : Tys) → AreTypes a [] us → IsParts a 2 us
    by no_tys k = refl
    by (ty_and t us) k = absurd k

pub drop_front : {A : Type 0} (xs : List A) (n : ℕ) (d : A) → 0 < n → n ≤ length xs → drop (n - 1) xs ≡ get_or xs (n - 1) d ∷ drop n xs
drop_front xs n d some le =
    let inside : n - 1 < length xs = omega arith in
    let next : suc (n - 1) ≡ n = omega arith in
    drop-cons xs (n - 1) d inside ∙ ap (λ k. get_or xs (n - 1) d ∷ drop k xs) next
