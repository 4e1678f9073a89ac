-- The pattern of a let.
use Rattle.std.proofs.Common.{◌≡◌, refl, sym, subst, ℕ, Bool, not, List, ◌++◌, Option, None, Some, Result, Ok, Err, []}
use Rattle.std.specs.Result.{IsErrAnd}
use Rattle.nv_ast.specs.declared.token.Span.{Span}
use Rattle.nv_ast.specs.Tests.{where_true}
use Rattle.nv_ast.specs.Tree.{PatternTree}
use Rattle.nv_ast.specs.Types.{Ty}
use Rattle.nv_ast.specs.Scope.{Vars, names_in, fits, bind, bind_value}
use Rattle.nv_ast.specs.Faults.{at_span, variable_twice, not_fitting}
use Rattle.nv_types_table.specs.declared.error.TypeError.{TypeError}
use Rattle.nv_types_table.specs.declared.error.TypeError.TheVariants.{NoMemory}
use Rattle.nv_types_scopes.specs.declared.functions.Checker.{Checker}
use Rattle.nv_types_table.specs.inner.Faulty.{IsFirstOf}
use Rattle.nv_types_table.specs.inner.Store.{Store, IsType, IsValue}
use Rattle.nv_types_scopes.specs.inner.Patterns.{Adds, BindsLet}
use Rattle.nv_types_scopes.specs.inner.Standing.{Sees}
use Rattle.nv_types_table.proofs.Firsts.{first_kind, then_kinds}
use Rattle.nv_types_scopes.proofs.Bound.{Adds-refl}

pub let_fails : {T : Type 0} (c new : Checker) (s : Span) (p : PatternTree) (value : Option ℕ) (why : TypeError) → ((t : Option Ty) → IsValue c.table value t → IsFirstOf (at_span s (variable_twice (names_in p) ++ not_fitting p t)) why) → BindsLet {T = T} c new s p value (Err why)
let_fails c new s p value why h = record { judged = h; sees = λ t vars is sees. tt; adds = tt }

pub let_at_err : {T : Type 0} (c new : Checker) (s : Span) (p : PatternTree) (value : Option ℕ) (r : Result T TypeError) (why : TypeError) → IsErrAnd r (λ y. y ≡ why) → BindsLet {T = T} c new s p value (Err why) → BindsLet c new s p value r
let_at_err {T} c new s p value (Err y) why h g = subst (λ (e : TypeError). BindsLet {T = T} c new s p value (Err e)) (sym h) g
let_at_err {T} c new s p value (Ok y) why h g = absurd h

pub let_wants_memory : {T : Type 0} (c new : Checker) (s : Span) (p : PatternTree) (value : Option ℕ) → BindsLet {T = T} c new s p value (Err NoMemory)
let_wants_memory c new s p value = let_fails c new s p value NoMemory (λ t is. tt)

pub let_fails_at_names : {T : Type 0} (c new : Checker) (s : Span) (p : PatternTree) (value : Option ℕ) (names : List (List ℕ)) (why : TypeError) → names ≡ names_in p → IsFirstOf (at_span s (variable_twice names)) why → BindsLet {T = T} c new s p value (Err why)
let_fails_at_names c new s p value names why is wrong = let_fails c new s p value why (λ t h. first_kind s (variable_twice (names_in p)) _ why (subst (λ (l : List (List ℕ)). IsFirstOf (at_span s (variable_twice l)) why) is wrong))

-- what is said of a type that the value has
at_type : (P : Option Ty → Type 0) (s : Store) (i : ℕ) (t : Option Ty) → IsValue s (Some i) t → ((u : Ty) → IsType s i u → P (Some u)) → P t
at_type P s i (Some u) h f = f u h
at_type P s i None h f = absurd h

pub let_fails_at_fit : {T : Type 0} (c new : Checker) (s : Span) (p : PatternTree) (i : ℕ) (names : List (List ℕ)) (fit : Bool) (why : TypeError)
    → names ≡ names_in p → at_span s (variable_twice names) ≡ [] → ((u : Ty) → IsType c.table i u → fit ≡ fits p u) → IsFirstOf (at_span s (where_true (not fit) 16)) why → BindsLet {T = T} c new s p (Some i) (Err why)
let_fails_at_fit c new s p i names fit why is fine of_fit wrong = let_fails c new s p (Some i) why (λ t h.
    then_kinds {T = ℕ} s (variable_twice (names_in p)) _ (Err why) (subst (λ (l : List (List ℕ)). at_span s (variable_twice l) ≡ []) is fine)
    (at_type (λ o. IsFirstOf (at_span s (not_fitting p o)) why) c.table i t h (λ u k. subst (λ (b : Bool). IsFirstOf (at_span s (where_true (not b) 16)) why) (of_fit u k) wrong)))

pub let_binds_none : {T : Type 0} (c : Checker) (s : Span) (p : PatternTree) (names : List (List ℕ)) (x : T) → names ≡ names_in p → at_span s (variable_twice names) ≡ [] → BindsLet c c s p None (Ok x)
let_binds_none c s p names x is fine = record {
  judged = λ t h. then_kinds {T = ℕ} s (variable_twice (names_in p)) _ (Ok 0) (subst (λ (l : List (List ℕ)). at_span s (variable_twice l) ≡ []) is fine) (no_type t h);
  sees = λ t vars h sees. no_vars t vars h sees;
  adds = Adds-refl c;
}
  where
    no_type : (t : Option Ty) → IsValue c.table None t → at_span s (not_fitting p t) ≡ []
    no_type None h = refl
    no_type (Some u) h = absurd h

    no_vars : (t : Option Ty) (vars : Vars) → IsValue c.table None t → Sees c vars → Sees c (bind_value p t vars)
    no_vars None vars h sees = sees
    no_vars (Some u) vars h sees = absurd h

pub let_binds_some : {T : Type 0} (c new : Checker) (s : Span) (p : PatternTree) (i : ℕ) (names : List (List ℕ)) (fit : Bool) (x : T)
    → names ≡ names_in p → at_span s (variable_twice names) ≡ [] → ((u : Ty) → IsType c.table i u → fit ≡ fits p u) → at_span s (where_true (not fit) 16) ≡ []
    → ((u : Ty) (vars : Vars) → IsType c.table i u → Sees c vars → Sees new (bind p u vars)) → Adds c new → BindsLet c new s p (Some i) (Ok x)
let_binds_some c new s p i names fit x is fine of_fit good binds adds = record {
  judged = λ t h.
      then_kinds {T = ℕ} s (variable_twice (names_in p)) _ (Ok 0) (subst (λ (l : List (List ℕ)). at_span s (variable_twice l) ≡ []) is fine)
      (at_type (λ o. at_span s (not_fitting p o) ≡ []) c.table i t h (λ u k. subst (λ (b : Bool). at_span s (where_true (not b) 16) ≡ []) (of_fit u k) good));
  sees = λ t vars h sees. at_type (λ o. Sees new (bind_value p o vars)) c.table i t h (λ u k. binds u vars k sees);
  adds = adds;
}

-- a value that is known by an equation
pub let_moved : {T : Type 0} (c new last : Checker) (s : Span) (p : PatternTree) (value other : Option ℕ) (r : Result T TypeError) → value ≡ other → last ≡ new → BindsLet c new s p other r → BindsLet c last s p value r
let_moved c new last s p value other r e f h = subst (λ (o : Option ℕ). BindsLet c last s p o r) (sym e) (subst (λ (n : Checker). BindsLet c n s p other r) (sym f) h)
