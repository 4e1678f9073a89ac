-- The places after the last ones where names are written.
use Rattle.std.proofs.Common.{◌≡◌, zero, suc, ◌∙◌, refl, ap, sym, subst, ⊎_elim, ℕ, ◌+◌, ◌-◌, ◌<◌, ◌≤◌, max, Bool, true, false, ◌||◌, cond, List, ◌∷◌, ◌++◌, take, drop, length, get_or, Option, None, Some, arith, bytes_eq, length-append, length-drop, length-take, []}
use Rattle.std.specs.Prelude.{◌↔◌, IsTrue, IsSomeAnd}
use Rattle.std.specs.List.{list_any}
use Rattle.std.specs.Cmp.Lexicographic.{nat_list_eq_equiv}
use Rattle.std.proofs.lemmas.Bool.{false≢true, cases_lt}
use Rattle.std.proofs.lemmas.List.{drop-append-le, drop_all, take_all}
use Rattle.std.proofs.lemmas.List.Folds.{list_any-append}
use Rattle.nv_ast.specs.Tests.{is_among, look_up}
use Rattle.nv_ast.proofs.Items.{take_item}
use Rattle.std.specs.Borrow.{Bor}
use Rattle.nv_types_table.specs.inner.Named.{plain_names}
use Rattle.nv_types_table.specs.inner.Needs.{IsEnds, IsEnd}
use Rattle.nv_types_table.proofs.Found.{plain-append}

or_cases : (P : Type 0) (a b : Bool) → (a ≡ true → P) → (b ≡ true → P) → (a || (b || false)) ≡ true → P
or_cases P true b f g h = f refl
or_cases P false true f g h = g refl
or_cases P false false f g h = absurd (false≢true h)

or_first : (a b : Bool) → a ≡ true → (a || (b || false)) ≡ true
or_first true b h = refl
or_first false b h = absurd (false≢true h)

or_second : (a b : Bool) → b ≡ true → (a || (b || false)) ≡ true
or_second true b h = refl
or_second false true h = refl
or_second false false h = absurd (false≢true h)

below_max : (P : Type 0) (n a b : ℕ) → (n < a → P) → (n < b → P) → n < max a b → P
below_max P n a b f g h = ⊎_elim f (λ (past : a ≤ n). g (omega (arith, past, h))) (cases_lt n a)

-- whether a name is among those that are written from a place on
abbrev among : ℕ → List (List ℕ) → ℕ → List ℕ → Bool
among first xs at y = is_among y (drop (at - first) xs)

pub end_none : (first : ℕ) (xs : List (List ℕ)) → IsEnd first xs [] 0
end_none first xs at = (λ t. absurd (false≢true t), λ l. absurd (omega (arith, l)))

-- one more name, whose end is known
pub end_some : (first : ℕ) (xs names : List (List ℕ)) (x : List ℕ) (ends : List (List ℕ × ℕ)) (before e new : ℕ)
    → IsEnds first xs ends → IsEnd first xs names before → look_up x ends ≡ Some e → new ≡ max before e → IsEnd first xs (names ++ x ∷ []) new
end_some first xs names x ends before e new is was found fresh at =
    let whole = list_any-append (among first xs at) names (x ∷ []) in
    let a = list_any (among first xs at) names in
    let b = among first xs at x in
    let here = subst (λ (o : Option ℕ). IsTrue b ↔ IsSomeAnd o (λ end. at < end)) found (is x at) in (
      λ t. or_cases (at < new) a b (λ (h : a ≡ true). let l = (was at).0 h in omega (arith, l, fresh)) (λ (h : b ≡ true). let l = here.0 h in omega (arith, l, fresh)) (sym whole ∙ t),
      λ l. whole ∙ below_max ((a || (b || false)) ≡ true) at before e (λ (h : at < before). or_first a b ((was at).1 h)) (λ (h : at < e). or_second a b (here.1 h)) (subst (λ (n : ℕ). at < n) fresh l),
    )

-- one more name, which isn't written
pub end_absent : (first : ℕ) (xs names : List (List ℕ)) (x : List ℕ) (ends : List (List ℕ × ℕ)) (before : ℕ)
    → IsEnds first xs ends → IsEnd first xs names before → look_up x ends ≡ None → IsEnd first xs (names ++ x ∷ []) before
end_absent first xs names x ends before is was absent at =
    let whole = list_any-append (among first xs at) names (x ∷ []) in
    let a = list_any (among first xs at) names in
    let b = among first xs at x in
    let here = subst (λ (o : Option ℕ). IsTrue b ↔ IsSomeAnd o (λ end. at < end)) absent (is x at) in (
      λ t. or_cases (at < before) a b (λ (h : a ≡ true). (was at).0 h) (λ (h : b ≡ true). absurd (here.0 h)) (sym whole ∙ t),
      λ l. whole ∙ or_first a b ((was at).1 l),
    )

pub ends_none : (first : ℕ) (w : List (List ℕ)) → IsEnds first (drop first (take first w)) []
ends_none first w x at =
    let nothing = ap (drop (at - first)) (drop_all first (take first w) (omega (arith, length-take first w))) ∙ drop_all (at - first) [] (omega arith) in
    (λ t. absurd (false≢true (sym (ap (is_among x) nothing) ∙ t)), λ l. absurd l)

-- one more name is written, seen from a place up to it
ends_before : (first i at : ℕ) (xs : List (List ℕ)) (x y : List ℕ) (old : List (List ℕ × ℕ)) (b : Bool) → bytes_eq y x ≡ b → at ≤ i
    → is_among y (drop (at - first) (xs ++ x ∷ [])) ≡ (is_among y (drop (at - first) xs) || (bytes_eq y x || false))
    → (IsTrue (is_among y (drop (at - first) xs)) ↔ IsSomeAnd (look_up y old) (λ end. at < end))
    → (IsTrue (is_among y (drop (at - first) (xs ++ x ∷ []))) ↔ IsSomeAnd (cond b (Some (i + 1)) (look_up y old)) (λ end. at < end))
ends_before first i at xs x y old true same l whole was = (λ t. omega (arith, l), λ m. whole ∙ or_second (is_among y (drop (at - first) xs)) (bytes_eq y x) same)
ends_before first i at xs x y old false same l whole was = (
  λ t. or_cases (IsSomeAnd (look_up y old) (λ end. at < end)) (is_among y (drop (at - first) xs)) (bytes_eq y x) (λ h. was.0 h) (λ h. absurd (false≢true (sym same ∙ h))) (sym whole ∙ t),
  λ m. whole ∙ or_first (is_among y (drop (at - first) xs)) (bytes_eq y x) (was.1 m),
)

-- and from a place after it
ends_past : (first i at : ℕ) (xs : List (List ℕ)) (x y : List ℕ) (old : List (List ℕ × ℕ)) (b : Bool) → i < at
    → is_among y (drop (at - first) (xs ++ x ∷ [])) ≡ false → is_among y (drop (at - first) xs) ≡ false
    → (IsTrue (is_among y (drop (at - first) xs)) ↔ IsSomeAnd (look_up y old) (λ end. at < end))
    → (IsTrue (is_among y (drop (at - first) (xs ++ x ∷ []))) ↔ IsSomeAnd (cond b (Some (i + 1)) (look_up y old)) (λ end. at < end))
ends_past first i at xs x y old true l none none_before was = (λ t. absurd (false≢true (sym none ∙ t)), λ m. absurd (omega (arith, m, l)))
ends_past first i at xs x y old false l none none_before was = (λ t. absurd (false≢true (sym none ∙ t)), λ m. absurd (false≢true (sym none_before ∙ was.1 m)))

ends_step : (first i at : ℕ) (xs : List (List ℕ)) (x y : List ℕ) (old : List (List ℕ × ℕ)) → first ≤ i → length xs ≡ i - first
    → (IsTrue (is_among y (drop (at - first) xs)) ↔ IsSomeAnd (look_up y old) (λ end. at < end))
    → (IsTrue (is_among y (drop (at - first) (xs ++ x ∷ []))) ↔ IsSomeAnd (cond (bytes_eq y x) (Some (i + 1)) (look_up y old)) (λ end. at < end))
ends_step first i at xs x y old le size was =
    ⊎_elim
    (λ (l : i < at).
    ends_past first i at xs x y old (bytes_eq y x) l
    (ap (is_among y) (drop_all (at - first) (xs ++ x ∷ []) (omega (arith, l, le, size, length-append xs (x ∷ [])))))
    (ap (is_among y) (drop_all (at - first) xs (omega (arith, l, le, size)))) was)
    (λ (l : at ≤ i).
    ends_before first i at xs x y old (bytes_eq y x) refl l
    (ap (is_among y) (drop-append-le (at - first) xs (x ∷ []) (omega (arith, l, le, size))) ∙ list_any-append (bytes_eq y) (drop (at - first) xs) (x ∷ [])) was)
    (cases_lt i at)

pub ends_more : (w : List (List ℕ)) (first i : ℕ) (x : List ℕ) (old new : List (List ℕ × ℕ)) → first ≤ i → i < length w → x ≡ get_or w i x → IsEnds first (drop first (take i w)) old
    → ((y : List ℕ) → look_up y new ≡ cond (bytes_eq x y) (Some (i + 1)) (look_up y old)) → IsEnds first (drop first (take (i + 1) w)) new
ends_more w first i x old new le lt e was after y at =
    let size : length (drop first (take i w)) ≡ i - first = omega (arith, length-drop first (take i w), length-take i w, lt) in
    let short : first ≤ length (take i w) = omega (arith, length-take i w, lt, le) in
    let split : drop first (take (i + 1) w) ≡ drop first (take i w) ++ x ∷ [] = ap (drop first) (take_item w i x lt e) ∙ drop-append-le first (take i w) (x ∷ []) short in
    let fresh : look_up y new ≡ cond (bytes_eq y x) (Some (i + 1)) (look_up y old) = after y ∙ ap (λ c. cond c (Some (i + 1)) (look_up y old)) (nat_list_eq_equiv.symm x y) in
    subst (λ (l : List (List ℕ)). IsTrue (among first l at y) ↔ IsSomeAnd (look_up y new) (λ end. at < end)) (sym split)
    (subst (λ (o : Option ℕ). IsTrue (among first (drop first (take i w) ++ x ∷ []) at y) ↔ IsSomeAnd o (λ end. at < end)) (sym fresh)
    (ends_step first i at (drop first (take i w)) x y old le size (was y at)))

pub ends_all : (w : List (List ℕ)) (first i : ℕ) (ends : List (List ℕ × ℕ)) → length w ≤ i → IsEnds first (drop first (take i w)) ends → IsEnds first (drop first w) ends
ends_all w first i ends past h = subst (λ (l : List (List ℕ)). IsEnds first (drop first l) ends) (take_all i w past) h

pub name_there : (xs : List (Bor (List ℕ))) (i : ℕ) (x : Bor (List ℕ)) → i < length xs → x ≡ get_or xs i x → x.now ≡ get_or (plain_names xs) i x.now
name_there [] i x h e = absurd (omega (arith, h))
name_there (y ∷ ys) zero x h e = ap (λ (b : Bor (List ℕ)). b.now) e
name_there (y ∷ ys) (suc i) x h e = name_there ys i x (omega (arith, h)) e

pub names_then : (xs : List (Bor (List ℕ))) (i : ℕ) (x : Bor (List ℕ)) → i < length xs → x ≡ get_or xs i x → plain_names (take (i + 1) xs) ≡ plain_names (take i xs) ++ x.now ∷ []
names_then xs i x h e = ap plain_names (take_item xs i x h e) ∙ plain-append (take i xs) (x ∷ [])

pub as_many_plain : (xs : List (Bor (List ℕ))) → length (plain_names xs) ≡ length xs
as_many_plain [] = refl
as_many_plain (x ∷ xs) = omega (arith, as_many_plain xs)
