-- Trees of fields as they are made: two that hang together, more after some rows, and the lists of single fields.
use Rattle.std.proofs.Common.{◌≡◌, ◌∙◌, refl, ap, sym, subst, ℕ, ◌+◌, ◌==◌, ◌<◌, true, false, cond, List, [], ◌∷◌, ◌++◌, Some, None, Option, Result, Ok, Err, slice_get, get_or, take, length, length-append, arith, true≢false}
use Rattle.std.specs.Borrow.{Bor}
use Rattle.std.specs.Option.{IsSome, option_to_list}
use Rattle.std.specs.Result.{IfOk, OnOk}
use Rattle.std.proofs.lemmas.List.{same_from_push, take_more}
use Rattle.nv_base.specs.declared.error.NoMemory.{NoMemory}
use Rattle.nv_ast.specs.Types.{NamedTys, no_named_tys, named_ty_and, Forms, no_forms, form_and}
use Rattle.nv_types_table.specs.declared.table.Cell.TheVariants.{Field, Both}
use Rattle.nv_types_table.specs.inner.Rows.{Row, one, both, depth, ends_as_deep, carried, hung, grown}
use Rattle.nv_types_table.specs.inner.Store.{Store, IsStore, Extends, Stands, IsRow, AreFieldCells, AreFormCells, IsFields, IsForms, AreFields, AreForms}
use Rattle.nv_types_table.specs.inner.Lists.{AreOnes, AreStacked, IsPut, ArePut}
use Rattle.nv_types_table.specs.inner.Named.{named}
use Rattle.nv_types_table.proofs.RowNumbers.{stands_stays, ones_stay, stacked_stay}
use Rattle.nv_types_table.proofs.Staying.{type_stays, form_stays, cells_stay, form_cells_stay}
use Rattle.nv_types_table.proofs.There.{IsSame, same_type, same_form}

pub made_both : (a b : Store) (r : Result ℕ NoMemory) (j k : ℕ) → IfOk r (λ i. slice_get b.cells i ≡ Some (Both j k)) → OnOk r (Extends a b)
    → (t u : Row) → Stands a j t → Stands a k u → IfOk r (λ i. Stands b i (both t u))
made_both a b (Ok i) j k at grows t u h l = (j, k, at, stands_stays a b grows j t h, stands_stays a b grows k u l)
made_both a b (Err e) j k at grows t u h l = tt

-- ---- the last of some rows
pushed_some : (front : List ℕ) (i : ℕ) → front ++ i ∷ [] ≡ [] → ⊥
pushed_some [] i e = cc
pushed_some (x ∷ front) i e = cc

pub last_row : (s : Store) (is front : List ℕ) (i : ℕ) (ts : List Row) → is ≡ front ++ i ∷ [] → AreStacked s is ts → (t : Row) × (us : List Row) × (ts ≡ t ∷ us) × Stands s i t × AreStacked s front us
last_row s is front i [] e h = absurd (pushed_some front i (sym e ∙ h))
last_row s is front i (t ∷ ts) e h =
    let same = same_from_push h.0 front h.1 i (sym h.2 ∙ e) in
    (t, ts, refl, subst (λ n. Stands s n t) same.1 h.3, subst (λ l. AreStacked s l ts) same.0 h.4)

pub popped : (old new front : List ℕ) (i : ℕ) (r : Option ℕ) → old ≡ front ++ i ∷ [] → old ≡ new ++ option_to_list r → (0 < length old → IsSome r) → new ≡ front
popped old new front i (Some x) e f some = (same_from_push new front x i (sym f ∙ e)).0
popped old new front i None e f some = absurd (true≢false (sym (some (subst (λ l. 0 < length l) (sym e) (has_some front i)))))
  where
    has_some : (l : List ℕ) (n : ℕ) → 0 < length (l ++ n ∷ [])
    has_some l n = omega (arith, length-append l (n ∷ []))

-- ---- rows and a last one that are told from those of an earlier store, and come to the same
abbrev pub ComesTo : {X : Type 0} → (List Row → Row → X) → Store → List ℕ → ℕ → Store → List ℕ → ℕ → Type 0
ComesTo f a is i s js j = (ts : List Row) (t : Row) → AreStacked a is ts → Stands a i t → (us : List Row) × (u : Row) × (f ts t ≡ f us u) × AreStacked s js us × Stands s j u

pub hung_step : (a s b : Store) (is js front : List ℕ) (i j before k : ℕ) → js ≡ front ++ before ∷ [] → Extends s b
    → ((t u : Row) → Stands s before t → Stands s j u → Stands b k (both t u)) → ComesTo hung a is i s js j → ComesTo hung a is i b front k
hung_step a s b is js front i j before k e grows made so ts t h l =
    let old = so ts t h l in
    let v = last_row s js front before old.0 e old.3 in
    (v.1, both v.0 old.1, old.2 ∙ ap (λ vs. hung vs old.1) v.2, stacked_stay s b grows front v.1 v.4, made v.0 old.1 v.3 old.4)

pub hung_end : (a s : Store) (is js : List ℕ) (i j : ℕ) → js ≡ [] → ComesTo hung a is i s js j → (ts : List Row) (t : Row) → AreStacked a is ts → Stands a i t → Stands s j (hung ts t)
hung_end a s is js i j none so ts t h l =
    let old = so ts t h l in
    by old.0 old.1 old.2 (subst (λ (n : List ℕ). AreStacked s n old.0) none old.3) old.4
  where
    by : (us : List Row) (u : Row) → hung ts t ≡ hung us u → AreStacked s [] us → Stands s j u → Stands s j (hung ts t)
    by [] u e k m = subst (Stands s j) (sym e) m
    by (v ∷ vs) u e k m = absurd (pushed_some k.0 k.1 (sym k.2))

-- ---- one more row after some others
pub carried_step : (a s b : Store) (is js front : List ℕ) (i j before k : ℕ) → js ≡ front ++ before ∷ [] → ((us : List Row) (u : Row) → AreStacked s js us → Stands s j u → true ≡ ends_as_deep us u) → Extends s b
    → ((t u : Row) → Stands s before t → Stands s j u → Stands b k (both t u)) → ComesTo carried a is i s js j → ComesTo carried a is i b front k
carried_step a s b is js front i j before k e deep grows made so ts t h l =
    let old = so ts t h l in
    let v = last_row s js front before old.0 e old.3 in
    let as_deep : true ≡ (depth v.0 == depth old.1) = deep old.0 old.1 old.3 old.4 ∙ ap (λ vs. ends_as_deep vs old.1) v.2 in (
      v.1,
      both v.0 old.1,
      old.2 ∙ ap (λ vs. carried vs old.1) v.2 ∙ ap (λ d. cond d (carried v.1 (both v.0 old.1)) (old.1 ∷ v.0 ∷ v.1)) (sym as_deep),
      stacked_stay s b grows front v.1 v.4,
      made v.0 old.1 v.3 old.4,
    )

pub carried_end : (a s : Store) (is js new : List ℕ) (i j : ℕ) → ((us : List Row) (u : Row) → AreStacked s js us → Stands s j u → false ≡ ends_as_deep us u) → new ≡ js ++ j ∷ []
    → ComesTo carried a is i s js j → (ts : List Row) (t : Row) → AreStacked a is ts → Stands a i t → AreStacked s new (carried ts t)
carried_end a s is js new i j deep e so ts t h l =
    let old = so ts t h l in
    subst (AreStacked s new) (sym (old.2 ∙ apart old.0 old.1 (deep old.0 old.1 old.3 old.4))) (js, j, e, old.4, old.3)
  where
    apart : (us : List Row) (u : Row) → false ≡ ends_as_deep us u → carried us u ≡ u ∷ us
    apart [] u d = refl
    apart (v ∷ vs) u d = ap (λ b. cond b (carried vs (both v u)) (u ∷ v ∷ vs)) (sym d)

-- ---- many more, one by one
abbrev pub GrowsTo : Store → List ℕ → ℕ → List ℕ → Store → List ℕ → ℕ → List ℕ → Type 0
GrowsTo a is i behind s js j left = (ts : List Row) (p : ℕ × ℕ) (ps : List (ℕ × ℕ)) → AreStacked a is ts → Stands a i (one p) → AreOnes a behind ps
    → (us : List Row) × (q : ℕ × ℕ) × (qs : List (ℕ × ℕ)) × (grown ts p ps ≡ grown us q qs) × AreStacked s js us × Stands s j (one q) × AreOnes s left qs

pub grown_step : (a s b : Store) (is behind js new left rest : List ℕ) (i j next : ℕ) → left ≡ next ∷ rest → Extends s b
    → ((us : List Row) (u : Row) → AreStacked s js us → Stands s j u → AreStacked b new (carried us u)) → GrowsTo a is i behind s js j left → GrowsTo a is i behind b new next rest
grown_step a s b is behind js new left rest i j next e grows carry so ts p ps h k l =
    let old = so ts p ps h k l in
    by old.0 old.1 old.2 old.3 old.4 old.5 (subst (λ (n : List ℕ). AreOnes s n old.2) e old.6)
  where
    by : (us : List Row) (q : ℕ × ℕ) (qs : List (ℕ × ℕ)) → grown ts p ps ≡ grown us q qs → AreStacked s js us → Stands s j (one q) → AreOnes s (next ∷ rest) qs
        → (vs : List Row) × (r : ℕ × ℕ) × (rs : List (ℕ × ℕ)) × (grown ts p ps ≡ grown vs r rs) × AreStacked b new vs × Stands b next (one r) × AreOnes b rest rs
    by us q [] e m n o = absurd o
    by us q (r ∷ rs) e m n o = (carried us (one q), r, rs, e, carry us (one q) m n, grows.cells_stay next _ o.0, ones_stay s b grows rest rs o.1)

pub grown_end : (a s b : Store) (is behind js left : List ℕ) (i j : ℕ) (r : Result ℕ NoMemory) → left ≡ []
    → ((us : List Row) (u : Row) → AreStacked s js us → Stands s j u → IfOk r (λ n. Stands b n (hung us u))) → GrowsTo a is i behind s js j left
    → (ts : List Row) (p : ℕ × ℕ) (ps : List (ℕ × ℕ)) → AreStacked a is ts → Stands a i (one p) → AreOnes a behind ps → IfOk r (λ n. Stands b n (grown ts p ps))
grown_end a s b is behind js left i j r none hang so ts p ps h k l =
    let old = so ts p ps h k l in
    by old.0 old.1 old.2 old.3 old.4 old.5 (subst (λ (n : List ℕ). AreOnes s n old.2) none old.6)
  where
    by : (us : List Row) (q : ℕ × ℕ) (qs : List (ℕ × ℕ)) → grown ts p ps ≡ grown us q qs → AreStacked s js us → Stands s j (one q) → AreOnes s [] qs → IfOk r (λ n. Stands b n (grown ts p ps))
    by us q [] e m n o = subst (λ t. IfOk r (λ n. Stands b n t)) (sym e) (hang us (one q) m n)
    by us q (x ∷ qs) e m n o = absurd o

-- ---- the tree of a list of single fields
pub row_some : (a b : Store) (is start behind : List ℕ) (i : ℕ) (r : Result ℕ NoMemory) → is ≡ i ∷ behind → start ≡ []
    → ((ts : List Row) (p : ℕ × ℕ) (ps : List (ℕ × ℕ)) → AreStacked a start ts → Stands a i (one p) → AreOnes a behind ps → IfOk r (λ n. Stands b n (grown ts p ps)))
    → (ps : List (ℕ × ℕ)) → AreOnes a is ps → IfOk r (λ n. IsRow b n ps)
row_some a b is start behind i r e none made ps h = by ps (subst (λ (l : List ℕ). AreOnes a l ps) e h)
  where
    by : (qs : List (ℕ × ℕ)) → AreOnes a (i ∷ behind) qs → IfOk r (λ n. IsRow b n qs)
    by [] k = absurd k
    by (q ∷ qs) k = made [] q qs none k.0 k.1

-- ---- lists of single fields of types or forms that had numbers
pub put_one : (a s m b : Store) (e : List ℕ × ℕ) (name part i : ℕ) → IsStore m → Extends a s → Extends s m → Extends m b → slice_get m.names name ≡ Some e.0 → IsSame m e.1 part → slice_get b.cells i ≡ Some (Field name part) → IsPut a b e i
put_one a s m b e name part i is f g h there same at = record {
  name = name;
  part = part;
  of_cell = at;
  of_name = h.names_stay name e.0 there;
  of_type = λ t k. type_stays m b h part t (same_type m is e.1 part same t (type_stays s m g e.1 t (type_stays a s f e.1 t k)));
  of_form = λ t k. form_stays m b h part t (same_form m is e.1 part same t (form_stays s m g e.1 t (form_stays a s f e.1 t k)));
}

put_stays : (a s b : Store) → Extends s b → (e : List ℕ × ℕ) (i : ℕ) → IsPut a s e i → IsPut a b e i
put_stays a s b grows e i h = record {
  name = h.name;
  part = h.part;
  of_cell = grows.cells_stay i _ h.of_cell;
  of_name = grows.names_stay h.name e.0 h.of_name;
  of_type = λ t k. type_stays s b grows h.part t (h.of_type t k);
  of_form = λ f k. form_stays s b grows h.part f (h.of_form f k);
}

pub put_more : (a s b : Store) → Extends s b → (es : List (List ℕ × ℕ)) (is : List ℕ) (e : List ℕ × ℕ) (i : ℕ) → ArePut a s es is → IsPut a b e i → ArePut a b (es ++ e ∷ []) (is ++ i ∷ [])
put_more a s b grows [] [] e i h k = (k, tt)
put_more a s b grows [] (j ∷ is) e i h k = absurd h
put_more a s b grows (d ∷ es) [] e i h k = absurd h
put_more a s b grows (d ∷ es) (j ∷ is) e i h k = (put_stays a s b grows d j h.0, put_more a s b grows es is e i h.1 k)

-- the entries up to one more of them
named_push : (xs : List (Bor (List ℕ) × ℕ)) (p : Bor (List ℕ) × ℕ) → named (xs ++ p ∷ []) ≡ named xs ++ (p.0.now, p.1) ∷ []
named_push [] p = refl
named_push (x ∷ xs) p = ap (λ l. (x.0.now, x.1) ∷ l) (named_push xs p)

pub named_more : (xs : List (Bor (List ℕ) × ℕ)) (i : ℕ) (p : Bor (List ℕ) × ℕ) → i < length xs → p ≡ get_or xs i p → named (take (i + 1) xs) ≡ named (take i xs) ++ (p.0.now, p.1) ∷ []
named_more xs i p inside e = ap named (take_more xs i p inside ∙ ap (λ q. take i xs ++ q ∷ []) (sym e)) ∙ named_push (take i xs) p

pub put_types : (a b : Store) (es : List (List ℕ × ℕ)) (is : List ℕ) (ts : NamedTys) → ArePut a b es is → AreFields a es ts → (ps : List (ℕ × ℕ)) × AreOnes b is ps × AreFieldCells b ps ts
put_types a b [] [] no_named_tys h k = ([], tt, tt)
put_types a b [] [] (named_ty_and x t ts) h k = absurd k
put_types a b [] (i ∷ is) ts h k = absurd h
put_types a b (e ∷ es) [] ts h k = absurd h
put_types a b (e ∷ es) (i ∷ is) no_named_tys h k = absurd k
put_types a b (e ∷ es) (i ∷ is) (named_ty_and x t ts) h k =
    let rest = put_types a b es is ts h.1 k.2 in
    let new = h.0 in
    ((new.name, new.part) ∷ rest.0, (new.of_cell, rest.1), (new.of_name ∙ ap Some k.0, new.of_type t k.1, rest.2))

pub put_forms : (a b : Store) (es : List (List ℕ × ℕ)) (is : List ℕ) (fs : Forms) → ArePut a b es is → AreForms a es fs → (ps : List (ℕ × ℕ)) × AreOnes b is ps × AreFormCells b ps fs
put_forms a b [] [] no_forms h k = ([], tt, tt)
put_forms a b [] [] (form_and x f fs) h k = absurd k
put_forms a b [] (i ∷ is) fs h k = absurd h
put_forms a b (e ∷ es) [] fs h k = absurd h
put_forms a b (e ∷ es) (i ∷ is) no_forms h k = absurd k
put_forms a b (e ∷ es) (i ∷ is) (form_and x f fs) h k =
    let rest = put_forms a b es is fs h.1 k.2 in
    let new = h.0 in
    ((new.name, new.part) ∷ rest.0, (new.of_cell, rest.1), (new.of_name ∙ ap Some k.0, new.of_form f k.1, rest.2))

-- ---- their lists
pub made_fields : (a s b : Store) (es : List (List ℕ × ℕ)) (is seen : List ℕ) (r : Result ℕ NoMemory) → seen ≡ is → ArePut a s es is → ((ps : List (ℕ × ℕ)) → AreOnes s seen ps → IfOk r (λ i. IsRow b i ps)) → OnOk r (Extends s b)
    → (ts : NamedTys) → AreFields a es ts → IfOk r (λ i. IsFields b i ts)
made_fields a s b es is seen (Ok i) e put row grows ts h =
    let v = put_types a s es is ts put h in
    (v.0, row v.0 (subst (λ (l : List ℕ). AreOnes s l v.0) (sym e) v.1), cells_stay s b grows v.0 ts v.2)
made_fields a s b es is seen (Err x) e put row grows ts h = tt

pub made_forms : (a s b : Store) (es : List (List ℕ × ℕ)) (is seen : List ℕ) (r : Result ℕ NoMemory) → seen ≡ is → ArePut a s es is → ((ps : List (ℕ × ℕ)) → AreOnes s seen ps → IfOk r (λ i. IsRow b i ps)) → OnOk r (Extends s b)
    → (fs : Forms) → AreForms a es fs → IfOk r (λ i. IsForms b i fs)
made_forms a s b es is seen (Ok i) e put row grows fs h =
    let v = put_forms a s es is fs put h in
    (v.0, row v.0 (subst (λ (l : List ℕ). AreOnes s l v.0) (sym e) v.1), form_cells_stay s b grows v.0 fs v.2)
made_forms a s b es is seen (Err x) e put row grows fs h = tt
