-- Tables that grow by one cell, or by one name.
use Rattle.std.proofs.Common.{◌≡◌, ◌∙◌, refl, ap, sym, subst, inl, inr, ◌⊎◌, ⊎_elim, ℕ, ◌<◌, ◌≤◌, List, [], ◌∷◌, ◌++◌, length, Some, arith, slice_get, length-append, Result, Ok, Err}
use Rattle.std.specs.Result.{OnOk}
use Rattle.std.proofs.lemmas.Option.{slice_get_within, slice_get-get_or, get_or_from_slice_get, same_Some}
use Rattle.std.proofs.lemmas.List.{get_or_append_left}
use Rattle.std.proofs.Math.Seq.{get_or-append_seam}
use Rattle.nv_types_table.specs.declared.table.Facts.{Facts}
use Rattle.nv_types_table.specs.declared.table.Cell.{Cell}
use Rattle.nv_types_table.specs.declared.table.Cell.TheVariants.{Word, Bool as BoolCell, NoParts, NoFields, Tuple, Record, Choice, Part, Field, Both}
use Rattle.nv_types_table.specs.inner.Cells.{nothing, fact_at, over, lone, cell_facts, AreBelow, IsTable}
use Rattle.nv_types_table.specs.inner.Store.{Store, Extends}

pub get_left : {A : Type 0} (xs ys : List A) (i : ℕ) (x : A) → slice_get xs i ≡ Some x → slice_get (xs ++ ys) i ≡ Some x
get_left xs ys i x h =
    let lt = slice_get_within xs i x h in
    slice_get-get_or (xs ++ ys) i x (omega (arith, lt, length-append xs ys)) ∙ ap Some (get_or_append_left xs ys x i lt ∙ get_or_from_slice_get xs i x x h)

pub get_last : {A : Type 0} (xs : List A) (x : A) → slice_get (xs ++ x ∷ []) (length xs) ≡ Some x
get_last xs x = slice_get-get_or (xs ++ x ∷ []) (length xs) x (omega (arith, length-append xs (x ∷ []))) ∙ ap Some (get_or-append_seam xs x [] x)

pub get_cases : {A : Type 0} (xs : List A) (y x : A) (i : ℕ) → slice_get (xs ++ y ∷ []) i ≡ Some x → (slice_get xs i ≡ Some x) ⊎ ((i ≡ length xs) × (x ≡ y))
get_cases xs y x i h =
    let lt = slice_get_within (xs ++ y ∷ []) i x h in
    let within : i ≤ length xs = omega (arith, lt, length-append xs (y ∷ [])) in
    ⊎_elim
    (λ (inside : i < length xs). inl (slice_get-get_or xs i x inside ∙ ap Some (sym (get_or_append_left xs (y ∷ []) x i inside) ∙ get_or_from_slice_get (xs ++ y ∷ []) i x x h)))
    (λ (last : i ≡ length xs). inr (last, same_Some x y (sym h ∙ ap (slice_get (xs ++ y ∷ [])) last ∙ get_last xs y)))
    (le_cases i (length xs) within)
  where
    le_cases : (a b : ℕ) → a ≤ b → (a < b) ⊎ (a ≡ b)
    le_cases a b le = search arith

fact_stays : (facts more : List Facts) (i : ℕ) → i < length facts → fact_at (facts ++ more) i ≡ fact_at facts i
fact_stays facts more i h = get_or_append_left facts more nothing i h

pub facts_stay : (facts more : List Facts) (i : ℕ) (c : Cell) → i ≤ length facts → AreBelow i c → cell_facts (facts ++ more) c ≡ cell_facts facts c
facts_stay facts more i Word h b = refl
facts_stay facts more i BoolCell h b = refl
facts_stay facts more i NoParts h b = refl
facts_stay facts more i NoFields h b = refl
facts_stay facts more i (Tuple parts) h b = ap over (fact_stays facts more parts (omega (arith, b, h)))
facts_stay facts more i (Record fields) h b = ap over (fact_stays facts more fields (omega (arith, b, h)))
facts_stay facts more i (Choice forms) h b = ap over (fact_stays facts more forms (omega (arith, b, h)))
facts_stay facts more i (Part t rest) h b =
    rw (fact_stays facts more t (omega (arith, b.0, h)), fact_stays facts more rest (omega (arith, b.1, h))) refl
facts_stay facts more i (Field x t) h b = ap lone (fact_stays facts more t (omega (arith, b, h)))
facts_stay facts more i (Both left right) h b =
    rw (fact_stays facts more left (omega (arith, b.0, h)), fact_stays facts more right (omega (arith, b.1, h))) refl

-- one more cell, which isn't there yet
pub IsTable-push : (names : List (List ℕ)) (cells : List Cell) (facts : List Facts) (c : Cell)
    → IsTable names cells facts → AreBelow (length cells) c → ((i : ℕ) → slice_get cells i ≡ Some c → ⊥)
    → IsTable names (cells ++ c ∷ []) (facts ++ cell_facts facts c ∷ [])
IsTable-push names cells facts c is below new = record {
  word = get_left cells (c ∷ []) 0 _ is.word;
  bool = get_left cells (c ∷ []) 1 _ is.bool;
  no_parts = get_left cells (c ∷ []) 2 _ is.no_parts;
  no_fields = get_left cells (c ∷ []) 3 _ is.no_fields;
  as_many = omega (arith, length-append facts (cell_facts facts c ∷ []), length-append cells (c ∷ []), is.as_many);
  below = λ i d h.
      ⊎_elim (λ (old : slice_get cells i ≡ Some d). is.below i d old)
      (λ (last : (i ≡ length cells) × (d ≡ c)). subst (λ n. AreBelow n d) (sym last.0) (subst (AreBelow (length cells)) (sym last.1) below))
      (get_cases cells c d i h);
  once = λ i j d h k.
      ⊎_elim
      (λ (old : slice_get cells i ≡ Some d).
      ⊎_elim (λ (older : slice_get cells j ≡ Some d). is.once i j d old older)
      (λ (last : (j ≡ length cells) × (d ≡ c)). absurd (new i (old ∙ ap Some last.1)))
      (get_cases cells c d j k))
      (λ (last : (i ≡ length cells) × (d ≡ c)).
      ⊎_elim (λ (older : slice_get cells j ≡ Some d). absurd (new j (older ∙ ap Some last.1)))
      (λ (latter : (j ≡ length cells) × (d ≡ c)). last.0 ∙ sym latter.0)
      (get_cases cells c d j k))
      (get_cases cells c d i h);
  one_name = is.one_name;
  known = λ i d h.
      ⊎_elim
      (λ (old : slice_get cells i ≡ Some d).
      let inside = slice_get_within cells i d old in
      get_left facts (cell_facts facts c ∷ []) i (cell_facts facts d) (is.known i d old)
      ∙ ap Some (sym (facts_stay facts (cell_facts facts c ∷ []) i d (omega (arith, inside, is.as_many)) (is.below i d old))))
      (λ (last : (i ≡ length cells) × (d ≡ c)).
      ap (slice_get (facts ++ cell_facts facts c ∷ [])) (last.0 ∙ sym is.as_many)
      ∙ get_last facts (cell_facts facts c)
      ∙ ap Some (sym (facts_stay facts (cell_facts facts c ∷ []) (length facts) c (omega arith) (subst (λ n. AreBelow n c) (sym is.as_many) below)) ∙ ap (cell_facts (facts ++ cell_facts facts c ∷ [])) (sym last.1)))
      (get_cases cells c d i h);
}

-- one more name
pub IsTable-name : (names : List (List ℕ)) (cells : List Cell) (facts : List Facts) (x : List ℕ)
    → IsTable names cells facts → ((i : ℕ) → slice_get names i ≡ Some x → ⊥) → IsTable (names ++ x ∷ []) cells facts
IsTable-name names cells facts x is new = record {
  word = is.word;
  bool = is.bool;
  no_parts = is.no_parts;
  no_fields = is.no_fields;
  as_many = is.as_many;
  below = is.below;
  once = is.once;
  one_name = λ i j y h k.
      ⊎_elim
      (λ (old : slice_get names i ≡ Some y).
      ⊎_elim (λ (older : slice_get names j ≡ Some y). is.one_name i j y old older)
      (λ (last : (j ≡ length names) × (y ≡ x)). absurd (new i (old ∙ ap Some last.1)))
      (get_cases names x y j k))
      (λ (last : (i ≡ length names) × (y ≡ x)).
      ⊎_elim (λ (older : slice_get names j ≡ Some y). absurd (new j (older ∙ ap Some last.1)))
      (λ (latter : (j ≡ length names) × (y ≡ x)). last.0 ∙ sym latter.0)
      (get_cases names x y j k))
      (get_cases names x y i h);
  known = is.known;
}

pub Extends-cells : (names : List (List ℕ)) (cells more : List Cell) → Extends (record { names = names; cells = cells }) (record { names = names; cells = cells ++ more })
Extends-cells names cells more = record { names_stay = λ i x h. h; cells_stay = λ i c h. get_left cells more i c h }

pub Extends-names : (names more : List (List ℕ)) (cells : List Cell) → Extends (record { names = names; cells = cells }) (record { names = names ++ more; cells = cells })
Extends-names names more cells = record { names_stay = λ i x h. get_left names more i x h; cells_stay = λ i c h. h }

pub Extends-refl : (s : Store) → Extends s s
Extends-refl s = record { names_stay = λ i x h. h; cells_stay = λ i c h. h }

pub Extends-trans : (a b c : Store) → Extends a b → Extends b c → Extends a c
Extends-trans a b c f g = record { names_stay = λ i x h. g.names_stay i x (f.names_stay i x h); cells_stay = λ i d h. g.cells_stay i d (f.cells_stay i d h) }

pub grows_after : {T E : Type 0} (a b c : Store) (r : Result T E) → Extends a b → OnOk r (Extends b c) → OnOk r (Extends a c)
grows_after a b c (Ok x) f g = Extends-trans a b c f g
grows_after a b c (Err e) f g = tt
