-- Patterns one after another, and lists of types that are walked with them.
use Rattle.std.proofs.Common.{◌≡◌, ◌∙◌, refl, ap, sym, subst, ℕ, ◌+◌, ◌<◌, List, [], ◌∷◌, drop, length, get_or, None, Some, slice_get, arith, true, false, eqb, is_none, rules, tests, ◌&&◌, suc, add-one}
use Rattle.std.proofs.Math.Seq.{drop-cons}
use Rattle.std.proofs.lemmas.Bool.{eq-eqb}
use Rattle.std.proofs.lemmas.Option.{none-some, same_Some}
use Rattle.nv_ast.specs.declared.tree.Pat.{Pat}
use Rattle.nv_ast.specs.Tree.{no_patterns}
use Rattle.nv_ast.specs.PatternView.{pattern_tree, list_patterns}
use Rattle.nv_ast.specs.Scope.{fits, fits_all}
use Rattle.nv_ast.specs.Types.{Ty, Tys, no_tys, ty_and}
use Rattle.nv_types_table.specs.inner.Store.{Store, IsStore, IsType, IsParts, part_of, count_tys}

-- ---- lists of types
pub part_none : (s : Store) (i : ℕ) (ts : Tys) → IsParts s i ts → part_of (slice_get s.cells i) ≡ None → ts ≡ no_tys
part_none s i no_tys h e = refl
part_none s i (ty_and t ts) h e = let clash : Some (h.0, h.1) ≡ None = sym (ap part_of h.2) ∙ e in absurd (not_none (h.0, h.1) clash)
  where
    not_none : (p : ℕ × ℕ) → Some p ≡ None → ⊥
    not_none p q = cc

pub part_some : (s : Store) → IsStore s → (i j rest : ℕ) (ts : Tys) → IsParts s i ts → part_of (slice_get s.cells i) ≡ Some (j, rest) → (t : Ty) × (us : Tys) × (ts ≡ ty_and t us) × IsType s j t × IsParts s rest us
part_some s is i j rest no_tys h e = absurd (none-some (j, rest) (sym (ap (λ n. part_of (slice_get s.cells n)) h ∙ ap part_of is.no_parts) ∙ e))
part_some s is i j rest (ty_and t ts) h e =
    let same = same_Some (h.0, h.1) (j, rest) (sym (ap part_of h.2) ∙ e) in
    (t, ts, refl, subst (λ n. IsType s n t) (ap (λ (p : ℕ × ℕ). p.0) same) h.3, subst (λ n. IsParts s n ts) (ap (λ (p : ℕ × ℕ). p.1) same) h.4)

-- a list that was walked for so many types
abbrev pub IsAfter : Store → ℕ → ℕ → ℕ → Type 0
IsAfter s types list i = (us : Tys) → IsParts s types us → (vs : Tys) × IsParts s list vs × (count_tys us ≡ count_tys vs + i)

pub after_none : (s : Store) (types list i n : ℕ) → IsAfter s types list i → part_of (slice_get s.cells list) ≡ None → i < n → (us : Tys) → IsParts s types us → false ≡ eqb (count_tys us) n
after_none s types list i n after none lt us h =
    let v = after us h in
    let e : count_tys v.0 ≡ 0 = ap count_tys (part_none s list v.0 v.1 none) in
    sym (other_number (count_tys us) n (omega (arith, e, v.2)))
  where
    other_number : (a b : ℕ) → a < b → eqb a b ≡ false
    other_number a b l = search (tests, rules)

pub after_some : (s : Store) → IsStore s → (types list i j rest : ℕ) → IsAfter s types list i → part_of (slice_get s.cells list) ≡ Some (j, rest) → IsAfter s types rest (i + 1)
after_some s is types list i j rest after some us h =
    let v = after us h in
    let p = part_some s is list j rest v.0 v.1 some in
    let e : count_tys v.0 ≡ count_tys p.1 + 1 = ap count_tys p.2 in
    (p.1, p.4, omega (arith, v.2, e))

pub after_all : (s : Store) → IsStore s → (types list n : ℕ) → IsAfter s types list n → (us : Tys) → IsParts s types us → is_none (part_of (slice_get s.cells list)) ≡ eqb (count_tys us) n
after_all s is types list n after us h = let v = after us h in by v.0 v.1 v.2
  where
    more_number : (a b : ℕ) → b < a → eqb a b ≡ false
    more_number a b l = search (tests, rules)

    by : (vs : Tys) → IsParts s list vs → count_tys us ≡ count_tys vs + n → is_none (part_of (slice_get s.cells list)) ≡ eqb (count_tys us) n
    by no_tys k e = ap (λ m. is_none (part_of (slice_get s.cells m))) k ∙ ap (λ o. is_none (part_of o)) is.no_parts ∙ sym (eq-eqb (count_tys us) n (omega (arith, e)))
    by (ty_and t ts) k e = ap (λ o. is_none (part_of o)) k.2 ∙ sym (more_number (count_tys us) n (omega (arith, e)))

-- patterns that were walked with a list: the others fit the rest exactly where all fit all
abbrev pub FitSo : Store → List Pat → List Pat → ℕ → ℕ → Type 0
FitSo s ps rest types list = (us : Tys) → IsParts s types us → (vs : Tys) × IsParts s list vs × (fits_all (list_patterns ps) us ≡ fits_all (list_patterns rest) vs)

pub fit_none : (s : Store) (ps rest : List Pat) (p : Pat) (types list : ℕ) → FitSo s ps (p ∷ rest) types list → part_of (slice_get s.cells list) ≡ None → (us : Tys) → IsParts s types us → false ≡ fits_all (list_patterns ps) us
fit_none s ps rest p types list so none us h =
    let v = so us h in
    sym (v.2 ∙ ap (fits_all (list_patterns (p ∷ rest))) (part_none s list v.0 v.1 none))

pub fit_some : (s : Store) → IsStore s → (ps rest : List Pat) (p : Pat) (types list j more : ℕ) → FitSo s ps (p ∷ rest) types list → part_of (slice_get s.cells list) ≡ Some (j, more)
    → (us : Tys) → IsParts s types us → (t : Ty) × (vs : Tys) × IsType s j t × IsParts s more vs × (fits_all (list_patterns ps) us ≡ (fits (pattern_tree p) t && fits_all (list_patterns rest) vs))
fit_some s is ps rest p types list j more so some us h =
    let v = so us h in
    let q = part_some s is list j more v.0 v.1 some in
    (q.0, q.1, q.3, q.4, v.2 ∙ ap (fits_all (list_patterns (p ∷ rest))) q.2)

pub fit_wrong : (s : Store) → IsStore s → (ps rest : List Pat) (p : Pat) (types list j more : ℕ) → FitSo s ps (p ∷ rest) types list → part_of (slice_get s.cells list) ≡ Some (j, more)
    → ((t : Ty) → IsType s j t → false ≡ fits (pattern_tree p) t) → (us : Tys) → IsParts s types us → false ≡ fits_all (list_patterns ps) us
fit_wrong s is ps rest p types list j more so some wrong us h =
    let q = fit_some s is ps rest p types list j more so some us h in
    sym (q.4 ∙ ap (λ b. b && fits_all (list_patterns rest) q.1) (sym (wrong q.0 q.2)))

pub fit_right : (s : Store) → IsStore s → (ps rest : List Pat) (p : Pat) (types list j more : ℕ) → FitSo s ps (p ∷ rest) types list → part_of (slice_get s.cells list) ≡ Some (j, more)
    → ((t : Ty) → IsType s j t → true ≡ fits (pattern_tree p) t) → FitSo s ps rest types more
fit_right s is ps rest p types list j more so some right us h =
    let q = fit_some s is ps rest p types list j more so some us h in
    (q.1, q.3, q.4 ∙ ap (λ b. b && fits_all (list_patterns rest) q.1) (sym (right q.0 q.2)))

pub fit_all : (s : Store) → IsStore s → (ps : List Pat) (types list : ℕ) → FitSo s ps [] types list → (us : Tys) → IsParts s types us → is_none (part_of (slice_get s.cells list)) ≡ fits_all (list_patterns ps) us
fit_all s is ps types list so us h = let v = so us h in by v.0 v.1 v.2
  where
    by : (vs : Tys) → IsParts s list vs → fits_all (list_patterns ps) us ≡ fits_all no_patterns vs → is_none (part_of (slice_get s.cells list)) ≡ fits_all (list_patterns ps) us
    by no_tys k e = ap (λ m. is_none (part_of (slice_get s.cells m))) k ∙ ap (λ o. is_none (part_of o)) is.no_parts ∙ sym e
    by (ty_and t ts) k e = ap (λ o. is_none (part_of o)) k.2 ∙ sym e

pub at_item : (xs : List Pat) (i : ℕ) (p : Pat) → i < length xs → p ≡ get_or xs i p → drop i xs ≡ p ∷ drop (i + 1) xs
at_item xs i p h e = drop-cons xs i p h ∙ ap (λ q. q ∷ drop (suc i) xs) (sym e) ∙ ap (λ k. p ∷ drop k xs) (sym (add-one i))
