-- The patterns of a handler.
use Rattle.std.proofs.Common.{◌≡◌, suc, ◌∙◌, refl, ap, sym, subst, ℕ, ◌+◌, Bool, true, false, not, ◌&&◌, cond, eqb, List, ◌∷◌, ◌++◌, length, Option, None, Some, is_none, Result, Ok, Err, bytes_eq, rules, tests, []}
use Rattle.std.specs.Result.{IsErrAnd}
use Rattle.std.proofs.lemmas.Option.{same_Some, none-some}
use Rattle.nv_ast.specs.declared.token.Span.{Span}
use Rattle.nv_ast.specs.declared.tree.Pat.{Pat}
use Rattle.nv_ast.specs.PatternView.{list_patterns}
use Rattle.nv_ast.specs.Tests.{look_up, where_true, has_twice}
use Rattle.nv_ast.specs.Tree.{PatternTrees}
use Rattle.nv_ast.specs.Types.{Tys, no_tys, ty_and}
use Rattle.nv_ast.specs.Scope.{Known, Vars, names_in_all, fits_all, bind_all, bind_raised}
use Rattle.nv_ast.specs.Faults.{at_span, as_many_patterns, variable_twice, wrong_number_of_patterns, not_all_fitting, raised_kinds}
use Rattle.nv_types_table.specs.declared.error.TypeError.{TypeError}
use Rattle.nv_types_table.specs.declared.error.TypeError.TheVariants.{NoMemory, Fault}
use Rattle.nv_types_scopes.specs.declared.functions.Checker.{Checker}
use Rattle.nv_types_table.specs.inner.Faulty.{IsFirstOf}
use Rattle.nv_types_table.specs.inner.Store.{IsParts, count_tys}
use Rattle.nv_types_scopes.specs.inner.Patterns.{Adds, BindsHandler}
use Rattle.nv_types_scopes.specs.inner.Standing.{Alike, Holds, Sees}
use Rattle.nv_types_table.proofs.Firsts.{first_kind, then_kinds}
use Rattle.nv_types_table.proofs.Staying.{parts_stay}

-- ---- things of the same names
some_step : {A B : Type 0} (R : A → B → Type 0) (a c : A) (b : B) (left : Option A) (right : Option B) (t : Bool) → R a b → ((left ≡ Some c) → (d : B) × (right ≡ Some d) × R c d)
    → cond t (Some a) left ≡ Some c → (d : B) × (cond t (Some b) right ≡ Some d) × R c d
some_step R a c b left right true h g e = (b, refl, subst (λ y. R y b) (same_Some a c e) h)
some_step R a c b left right false h g e = g e

alike_some : {A B : Type 0} (R : A → B → Type 0) (x : List ℕ) (xs : List (List ℕ × A)) (ys : List (List ℕ × B)) (c : A) → Alike R xs ys → look_up x xs ≡ Some c → (d : B) × (look_up x ys ≡ Some d) × R c d
alike_some R x [] [] c h e = absurd (none-some c e)
alike_some R x ((y, a) ∷ xs) ((z, b) ∷ ys) c h e =
    let found = some_step R a c b (look_up x xs) (look_up x ys) (bytes_eq x y) h.1 (λ l. alike_some R x xs ys c h.2 l) e in
    (found.0, ap (λ (n : List ℕ). cond (bytes_eq x n) (Some b) (look_up x ys)) (sym h.0) ∙ found.1, found.2)
alike_some R x [] (y ∷ ys) c h e = absurd h
alike_some R x (a ∷ xs) [] c h e = absurd h

none_step : {A B : Type 0} (a : A) (b : B) (left : Option A) (right : Option B) (t : Bool) → (left ≡ None → right ≡ None) → cond t (Some a) left ≡ None → cond t (Some b) right ≡ None
none_step a b left right true g e = absurd (not_none a e)
  where
    not_none : {T : Type 0} (y : T) → Some y ≡ None → ⊥
    not_none y q = cc
none_step a b left right false g e = g e

alike_none : {A B : Type 0} (R : A → B → Type 0) (x : List ℕ) (xs : List (List ℕ × A)) (ys : List (List ℕ × B)) → Alike R xs ys → look_up x xs ≡ None → look_up x ys ≡ None
alike_none R x [] [] h e = refl
alike_none R x ((y, a) ∷ xs) ((z, b) ∷ ys) h e =
    ap (λ (n : List ℕ). cond (bytes_eq x n) (Some b) (look_up x ys)) (sym h.0) ∙ none_step a b (look_up x xs) (look_up x ys) (bytes_eq x y) (λ l. alike_none R x xs ys h.2 l) e
alike_none R x [] (y ∷ ys) h e = absurd h
alike_none R x (a ∷ xs) [] h e = absurd h

-- ---- as many patterns as types
as_many_is : (ts : Tys) (ps : List Pat) → as_many_patterns ts (list_patterns ps) ≡ eqb (count_tys ts) (length ps)
as_many_is no_tys [] = refl
as_many_is (ty_and t ts) (p ∷ ps) = as_many_is ts ps ∙ next (count_tys ts) (length ps)
  where
    next : (a b : ℕ) → eqb a b ≡ eqb (a + 1) (suc b)
    next a b = search (tests, rules)
as_many_is no_tys (p ∷ ps) = none (length ps)
  where
    none : (b : ℕ) → false ≡ eqb 0 (suc b)
    none b = search (tests, rules)
as_many_is (ty_and t ts) [] = none (count_tys ts)
  where
    none : (a : ℕ) → false ≡ eqb (a + 1) 0
    none a = search (tests, rules)

-- ---- the kinds of a handler's patterns, one after another
pub handler_fails : (c new : Checker) (s : Span) (x : List ℕ) (ps : PatternTrees) (why : TypeError) → ((k : Known) → Holds c k → IsFirstOf (at_span s (raised_kinds k x ps)) why) → BindsHandler c new s x ps (Err why)
handler_fails c new s x ps why h = record { judged = h; sees = λ k vars holds sees. tt; typed = λ k holds. tt; adds = tt }

pub handler_at_err : (c new : Checker) (s : Span) (x : List ℕ) (ps : PatternTrees) (r : Result ℕ TypeError) (why : TypeError) → IsErrAnd r (λ y. y ≡ why) → BindsHandler c new s x ps (Err why) → BindsHandler c new s x ps r
handler_at_err c new s x ps (Err y) why h g = subst (λ (e : TypeError). BindsHandler c new s x ps (Err e)) (sym h) g
handler_at_err c new s x ps (Ok y) why h g = absurd h

pub handler_wants_memory : (c new : Checker) (s : Span) (x : List ℕ) (ps : PatternTrees) → BindsHandler c new s x ps (Err NoMemory)
handler_wants_memory c new s x ps = handler_fails c new s x ps NoMemory (λ k holds. tt)

-- a name twice
pub handler_fails_at_names : (c new : Checker) (s : Span) (x : List ℕ) (ps : PatternTrees) (twice : Bool) (why : TypeError) → twice ≡ has_twice (names_in_all ps) → IsFirstOf (at_span s (where_true twice 9)) why → BindsHandler c new s x ps (Err why)
handler_fails_at_names c new s x ps twice why is wrong = handler_fails c new s x ps why (λ k holds. first_kind s (variable_twice (names_in_all ps)) _ why (subst (λ (b : Bool). IsFirstOf (at_span s (where_true b 9)) why) is wrong))

names_done : (s : Span) (ps : PatternTrees) (twice : Bool) → twice ≡ has_twice (names_in_all ps) → at_span s (where_true twice 9) ≡ [] → at_span s (variable_twice (names_in_all ps)) ≡ []
names_done s ps twice is fine = subst (λ (b : Bool). at_span s (where_true b 9) ≡ []) is fine

-- an unknown exception
pub handler_fails_at_exception : (c new : Checker) (s : Span) (x : List ℕ) (ps : PatternTrees) (twice : Bool) → twice ≡ has_twice (names_in_all ps) → at_span s (where_true twice 9) ≡ [] → look_up x c.exceptions ≡ None → BindsHandler c new s x ps (Err (Fault 17 s))
handler_fails_at_exception c new s x ps twice is fine absent = handler_fails c new s x ps (Fault 17 s) (λ k holds.
    let none = alike_none (IsParts c.table) x c.exceptions k.exceptions holds.of_exceptions absent in
    then_kinds {T = ℕ} s (variable_twice (names_in_all ps)) _ (Err (Fault 17 s)) (names_done s ps twice is fine)
    ([], ap (λ (o : Option Tys). at_span s (wrong_number_of_patterns o ps ++ (not_all_fitting ps o ++ where_true (is_none o) 17))) none))

-- another number of patterns
pub handler_fails_at_number : (c new : Checker) (s : Span) (x : List ℕ) (ps : List Pat) (twice many : Bool) (types : ℕ) (why : TypeError)
    → twice ≡ has_twice (names_in_all (list_patterns ps)) → at_span s (where_true twice 9) ≡ [] → look_up x c.exceptions ≡ Some types
    → ((us : Tys) → IsParts c.table types us → many ≡ eqb (count_tys us) (length ps)) → IsFirstOf (at_span s (where_true (not many) 13)) why
    → BindsHandler c new s x (list_patterns ps) (Err why)
handler_fails_at_number c new s x ps twice many types why is fine there of_many wrong = handler_fails c new s x (list_patterns ps) why (λ k holds.
    let found = alike_some (IsParts c.table) x c.exceptions k.exceptions types holds.of_exceptions there in
    let same = of_many found.0 found.2 ∙ sym (as_many_is found.0 ps) in
    let here : IsFirstOf (at_span s (wrong_number_of_patterns (Some found.0) (list_patterns ps))) why = subst (λ (b : Bool). IsFirstOf (at_span s (where_true (not b) 13)) why) same wrong in
    then_kinds {T = ℕ} s (variable_twice (names_in_all (list_patterns ps))) _ (Err why) (names_done s (list_patterns ps) twice is fine)
    (subst (λ (o : Option Tys). IsFirstOf (at_span s (wrong_number_of_patterns o (list_patterns ps) ++ (not_all_fitting (list_patterns ps) o ++ where_true (is_none o) 17))) why) (sym found.1)
    (first_kind s (wrong_number_of_patterns (Some found.0) (list_patterns ps)) _ why here)))

many_then : (b f : Bool) → b ≡ true → where_true {A = ℕ} (b && not f) 16 ≡ where_true {A = ℕ} (not f) 16
many_then b f h = ap (λ c. where_true {A = ℕ} (c && not f) 16) h

not_wrong : (s : Span) (b : Bool) → at_span s (where_true (not b) 13) ≡ [] → b ≡ true
not_wrong s true h = refl
not_wrong s false h = absurd (some_left h)
  where
    some_left : at_span s (13 ∷ []) ≡ [] → ⊥
    some_left q = cc

-- a pattern that doesn't fit
pub handler_fails_at_fit : (c new : Checker) (s : Span) (x : List ℕ) (ps : List Pat) (twice many fit : Bool) (types : ℕ) (why : TypeError)
    → twice ≡ has_twice (names_in_all (list_patterns ps)) → at_span s (where_true twice 9) ≡ [] → look_up x c.exceptions ≡ Some types
    → ((us : Tys) → IsParts c.table types us → many ≡ eqb (count_tys us) (length ps)) → at_span s (where_true (not many) 13) ≡ []
    → ((us : Tys) → IsParts c.table types us → fit ≡ fits_all (list_patterns ps) us) → IsFirstOf (at_span s (where_true (not fit) 16)) why
    → BindsHandler c new s x (list_patterns ps) (Err why)
handler_fails_at_fit c new s x ps twice many fit types why is fine there of_many right of_fit wrong = handler_fails c new s x (list_patterns ps) why (λ k holds.
    let found = alike_some (IsParts c.table) x c.exceptions k.exceptions types holds.of_exceptions there in
    let ts = found.0 in
    let same = of_many ts found.2 ∙ sym (as_many_is ts ps) in
    let number : at_span s (wrong_number_of_patterns (Some ts) (list_patterns ps)) ≡ [] = subst (λ (b : Bool). at_span s (where_true (not b) 13) ≡ []) same right in
    let enough : as_many_patterns ts (list_patterns ps) ≡ true = not_wrong s (as_many_patterns ts (list_patterns ps)) number in
    let here : IsFirstOf (at_span s (not_all_fitting (list_patterns ps) (Some ts))) why =
    subst (λ (l : List ℕ). IsFirstOf (at_span s l) why) (ap (λ (b : Bool). where_true (not b) 16) (of_fit ts found.2) ∙ sym (many_then (as_many_patterns ts (list_patterns ps)) (fits_all (list_patterns ps) ts) enough)) wrong
    in
    then_kinds {T = ℕ} s (variable_twice (names_in_all (list_patterns ps))) _ (Err why) (names_done s (list_patterns ps) twice is fine)
    (subst (λ (o : Option Tys). IsFirstOf (at_span s (wrong_number_of_patterns o (list_patterns ps) ++ (not_all_fitting (list_patterns ps) o ++ where_true (is_none o) 17))) why) (sym found.1)
    (then_kinds {T = ℕ} s (wrong_number_of_patterns (Some ts) (list_patterns ps)) _ (Err why) number (first_kind s (not_all_fitting (list_patterns ps) (Some ts)) _ why here))))

-- no fault
pub handler_binds : (c new : Checker) (s : Span) (x : List ℕ) (ps : List Pat) (twice many fit : Bool) (types : ℕ)
    → twice ≡ has_twice (names_in_all (list_patterns ps)) → at_span s (where_true twice 9) ≡ [] → look_up x c.exceptions ≡ Some types
    → ((us : Tys) → IsParts c.table types us → many ≡ eqb (count_tys us) (length ps)) → at_span s (where_true (not many) 13) ≡ []
    → ((us : Tys) → IsParts c.table types us → fit ≡ fits_all (list_patterns ps) us) → at_span s (where_true (not fit) 16) ≡ []
    → ((us : Tys) (vars : Vars) → IsParts c.table types us → Sees c vars → Sees new (bind_all (list_patterns ps) us vars)) → Adds c new
    → BindsHandler c new s x (list_patterns ps) (Ok types)
handler_binds c new s x ps twice many fit types is fine there of_many right of_fit good binds adds = record {
  judged = λ k holds.
      let found = at k holds in
      let ts = found.0 in
      let same = of_many ts found.2 ∙ sym (as_many_is ts ps) in
      let number : at_span s (wrong_number_of_patterns (Some ts) (list_patterns ps)) ≡ [] = subst (λ (b : Bool). at_span s (where_true (not b) 13) ≡ []) same right in
      let enough : as_many_patterns ts (list_patterns ps) ≡ true = not_wrong s (as_many_patterns ts (list_patterns ps)) number in
      let here : at_span s (not_all_fitting (list_patterns ps) (Some ts)) ≡ [] =
      subst (λ (l : List ℕ). at_span s l ≡ []) (ap (λ (b : Bool). where_true (not b) 16) (of_fit ts found.2) ∙ sym (many_then (as_many_patterns ts (list_patterns ps)) (fits_all (list_patterns ps) ts) enough)) good
      in
      then_kinds {T = ℕ} s (variable_twice (names_in_all (list_patterns ps))) _ (Ok types) (names_done s (list_patterns ps) twice is fine)
      (subst (λ (o : Option Tys). at_span s (wrong_number_of_patterns o (list_patterns ps) ++ (not_all_fitting (list_patterns ps) o ++ where_true (is_none o) 17)) ≡ []) (sym found.1)
      (then_kinds {T = ℕ} s (wrong_number_of_patterns (Some ts) (list_patterns ps)) _ (Ok types) number (then_kinds {T = ℕ} s (not_all_fitting (list_patterns ps) (Some ts)) _ (Ok types) here refl)));
  sees = λ k vars holds sees.
      let found = at k holds in
      subst (λ (o : Option Tys). Sees new (bind_raised (list_patterns ps) o vars)) (sym found.1) (binds found.0 vars found.2 sees);
  typed = λ k holds. let found = at k holds in (found.0, found.1, parts_stay c.table new.table adds.declared.grows types found.0 found.2);
  adds = adds;
}
  where
    at : (k : Known) → Holds c k → (ts : Tys) × (look_up x k.exceptions ≡ Some ts) × IsParts c.table types ts
    at k holds = alike_some (IsParts c.table) x c.exceptions k.exceptions types holds.of_exceptions there
