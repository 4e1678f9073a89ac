-- The faults of a declaration, one after another.
use Rattle.std.proofs.Common.{◌≡◌, ◌∙◌, refl, ap, sym, subst, ℕ, ◌<◌, ◌≤◌, cond, List, [], ◌∷◌, ◌++◌, nat_lt, bytes_eq, Option, None, Some, is_some, Result, Err, arith, ⊎_elim}
use Rattle.std.proofs.lemmas.Bool.{cases_lt, lt-ltb, le-ltb}
use Rattle.nv_ast.specs.declared.token.Span.{Span}
use Rattle.nv_ast.specs.Tree.{LayoutTree, TypeTrees, FunTree, LayoutDecl, ExceptionDecl, GroupDecl}
use Rattle.nv_ast.specs.Tests.{is_among, names_of, look_up, where_true}
use Rattle.nv_ast.specs.LayoutFaults.{declared_faults}
use Rattle.nv_ast.specs.Types.{types_of, total_words}
use Rattle.nv_ast.specs.Scope.{Known, signature, in_group}
use Rattle.nv_ast.specs.Faults.{Fault as FaultAt, main_name, at_span, types_faults, declared_before, wide_exception, named_types_faults, type_faults, type_names, variable_twice, wide_main, name_faults, signature_faults, signatures_faults, bodies_faults, decl_faults}
use Rattle.nv_types_table.specs.declared.error.TypeError.{TypeError}
use Rattle.nv_types_scopes.specs.declared.functions.Checker.{Checker}
use Rattle.nv_types_table.specs.inner.Cells.{still}
use Rattle.nv_types_table.specs.inner.Faulty.{IsFirstOf, Judges}
use Rattle.nv_types_table.specs.inner.Layouts.{IsDeclared}
use Rattle.nv_types_table.specs.inner.Store.{IsParts}
use Rattle.nv_types_scopes.specs.inner.Declarations.{Between}
use Rattle.nv_types_table.proofs.Firsts.{first_append, judges_behind, first_kind, then_kinds}
use Rattle.nv_types_scopes.proofs.Alikes.{alike_names, among_look_up}

-- ---- what isn't there
pub found_nothing : {A : Type 0} (s : Span) (o : Option A) (kind : ℕ) → at_span s (where_true (is_some o) kind) ≡ [] → o ≡ None
found_nothing s None kind e = refl
found_nothing s (Some x) kind e = absurd (clash (kind, s) [] e)
  where
    clash : (y : FaultAt) (ys : List FaultAt) → y ∷ ys ≡ [] → ⊥
    clash y ys q = cc

known_layout : (c : Checker) (k : Known) (x : List ℕ) → Between c k → is_some (look_up x c.layouts) ≡ is_among x (names_of k.layouts)
known_layout c k x is = among_look_up x c.layouts ∙ ap (is_among x) (alike_names (IsDeclared c.table) c.layouts k.layouts is.holds.of_layouts)

known_exception : (c : Checker) (k : Known) (x : List ℕ) → Between c k → is_some (look_up x c.exceptions) ≡ is_among x (names_of k.exceptions)
known_exception c k x is = among_look_up x c.exceptions ∙ ap (is_among x) (alike_names (IsParts c.table) c.exceptions k.exceptions is.holds.of_exceptions)

-- ---- layouts
pub layout_first : (c : Checker) (k : Known) (x : List ℕ) (l : LayoutTree) (s : Span) (e : TypeError) → Between c k
    → IsFirstOf (at_span s (where_true (is_some (look_up x c.layouts)) 2)) e → IsFirstOf (decl_faults k (LayoutDecl x l s)) e
layout_first c k x l s e is h =
    first_kind s (declared_before x (names_of k.layouts)) (declared_faults k.layouts l) e (subst (λ b. IsFirstOf (at_span s (where_true b 2)) e) (known_layout c k x is) h)

pub layout_then : {T : Type 0} (c : Checker) (k : Known) (x : List ℕ) (l : LayoutTree) (s : Span) (r : Result T TypeError) → Between c k
    → at_span s (where_true (is_some (look_up x c.layouts)) 2) ≡ [] → Judges (at_span s (declared_faults k.layouts l)) r → Judges (decl_faults k (LayoutDecl x l s)) r
layout_then c k x l s r is none h =
    then_kinds s (declared_before x (names_of k.layouts)) (declared_faults k.layouts l) r (subst (λ b. at_span s (where_true b 2) ≡ []) (known_layout c k x is) none) h

-- ---- exceptions
pub exception_first : (c : Checker) (k : Known) (x : List ℕ) (ts : TypeTrees) (s : Span) (e : TypeError) → Between c k
    → IsFirstOf (at_span s (where_true (is_some (look_up x c.exceptions)) 2)) e → IsFirstOf (decl_faults k (ExceptionDecl x ts s)) e
exception_first c k x ts s e is h =
    first_kind s (declared_before x (names_of k.exceptions)) (types_faults k.layouts ts ++ wide_exception (types_of k.layouts ts)) e (subst (λ b. IsFirstOf (at_span s (where_true b 2)) e) (known_exception c k x is) h)

exception_then : {T : Type 0} (c : Checker) (k : Known) (x : List ℕ) (ts : TypeTrees) (s : Span) (r : Result T TypeError) → Between c k
    → at_span s (where_true (is_some (look_up x c.exceptions)) 2) ≡ [] → Judges (at_span s (types_faults k.layouts ts ++ wide_exception (types_of k.layouts ts))) r → Judges (decl_faults k (ExceptionDecl x ts s)) r
exception_then c k x ts s r is none h =
    then_kinds s (declared_before x (names_of k.exceptions)) (types_faults k.layouts ts ++ wide_exception (types_of k.layouts ts)) r (subst (λ b. at_span s (where_true b 2) ≡ []) (known_exception c k x is) none) h

pub exception_types : (c : Checker) (k : Known) (x : List ℕ) (ts : TypeTrees) (s : Span) (e : TypeError) → Between c k
    → at_span s (where_true (is_some (look_up x c.exceptions)) 2) ≡ [] → IsFirstOf (at_span s (types_faults k.layouts ts)) e → IsFirstOf (decl_faults k (ExceptionDecl x ts s)) e
exception_types c k x ts s e is none h =
    exception_then {T = Unit {0}} c k x ts s (Err e) is none (first_kind s (types_faults k.layouts ts) (wide_exception (types_of k.layouts ts)) e h)

pub over_eight : (n : ℕ) → nat_lt 8 (still n) ≡ nat_lt 8 n
over_eight n =
    ⊎_elim
    (λ (h : 8 < n). lt-ltb 8 (still n) (omega (arith, h)) ∙ sym (lt-ltb 8 n h))
    (λ (h : n ≤ 8). le-ltb 8 (still n) (omega (arith, h)) ∙ sym (le-ltb 8 n h))
    (cases_lt 8 n)

pub exception_wide : {T : Type 0} (c : Checker) (k : Known) (x : List ℕ) (ts : TypeTrees) (s : Span) (n : ℕ) (r : Result T TypeError) → Between c k
    → at_span s (where_true (is_some (look_up x c.exceptions)) 2) ≡ [] → at_span s (types_faults k.layouts ts) ≡ [] → n ≡ still (total_words (types_of k.layouts ts)) → Judges (at_span s (where_true (nat_lt 8 n) 23)) r
    → Judges (decl_faults k (ExceptionDecl x ts s)) r
exception_wide c k x ts s n r is none typed e h =
    exception_then c k x ts s r is none
    (then_kinds s (types_faults k.layouts ts) (wide_exception (types_of k.layouts ts)) r typed
    (subst (λ b. Judges (at_span s (where_true b 23)) r) (ap (nat_lt 8) e ∙ over_eight (total_words (types_of k.layouts ts))) h))

-- ---- functions' texts
pub text_params : (known : _) (f : FunTree) (e : TypeError) → IsFirstOf (at_span f.span (named_types_faults known f.params)) e → IsFirstOf (signature_faults known f) e
text_params known f e h = first_kind f.span (named_types_faults known f.params) _ e h

text_behind : {T : Type 0} (known : _) (f : FunTree) (r : Result T TypeError) → at_span f.span (named_types_faults known f.params) ≡ []
    → Judges (at_span f.span (type_faults known f.result ++ (variable_twice (type_names f.params) ++ (cond (bytes_eq f.name main_name) (wide_main (signature known f)) [])))) r → Judges (signature_faults known f) r
text_behind known f r none h =
    then_kinds f.span (named_types_faults known f.params) (type_faults known f.result ++ (variable_twice (type_names f.params) ++ (cond (bytes_eq f.name main_name) (wide_main (signature known f)) []))) r none h

pub text_result : (known : _) (f : FunTree) (e : TypeError) → at_span f.span (named_types_faults known f.params) ≡ [] → IsFirstOf (at_span f.span (type_faults known f.result)) e → IsFirstOf (signature_faults known f) e
text_result known f e none h =
    text_behind {T = Unit {0}} known f (Err e) none (first_kind f.span (type_faults known f.result) (variable_twice (type_names f.params) ++ (cond (bytes_eq f.name main_name) (wide_main (signature known f)) [])) e h)

pub text_twice : (known : _) (f : FunTree) (e : TypeError) → at_span f.span (named_types_faults known f.params) ≡ [] → at_span f.span (type_faults known f.result) ≡ []
    → IsFirstOf (at_span f.span (variable_twice (type_names f.params))) e → IsFirstOf (signature_faults known f) e
text_twice known f e none typed h =
    text_behind {T = Unit {0}} known f (Err e) none
    (then_kinds {T = Unit {0}} f.span (type_faults known f.result) (variable_twice (type_names f.params) ++ (cond (bytes_eq f.name main_name) (wide_main (signature known f)) [])) (Err e) typed
    (first_kind f.span (variable_twice (type_names f.params)) (cond (bytes_eq f.name main_name) (wide_main (signature known f)) []) e h))

pub text_main : {T : Type 0} (known : _) (f : FunTree) (r : Result T TypeError) → at_span f.span (named_types_faults known f.params) ≡ [] → at_span f.span (type_faults known f.result) ≡ []
    → at_span f.span (variable_twice (type_names f.params)) ≡ [] → Judges (at_span f.span (cond (bytes_eq f.name main_name) (wide_main (signature known f)) [])) r → Judges (signature_faults known f) r
text_main known f r none typed once h =
    text_behind known f r none
    (then_kinds f.span (type_faults known f.result) (variable_twice (type_names f.params) ++ (cond (bytes_eq f.name main_name) (wide_main (signature known f)) [])) r typed
    (then_kinds f.span (variable_twice (type_names f.params)) (cond (bytes_eq f.name main_name) (wide_main (signature known f)) []) r once h))

-- ---- groups
pub group_first : (k : Known) (fs : List FunTree) (e : TypeError) → IsFirstOf (name_faults (names_of k.functions) fs) e → IsFirstOf (decl_faults k (GroupDecl fs)) e
group_first k fs e h = first_append (name_faults (names_of k.functions) fs) (signatures_faults k.layouts fs ++ bodies_faults (in_group k fs) fs) e h

pub group_texts : (k : Known) (fs : List FunTree) (e : TypeError) → name_faults (names_of k.functions) fs ≡ [] → IsFirstOf (signatures_faults k.layouts fs) e → IsFirstOf (decl_faults k (GroupDecl fs)) e
group_texts k fs e none h =
    judges_behind {T = Unit {0}} (name_faults (names_of k.functions) fs) (signatures_faults k.layouts fs ++ bodies_faults (in_group k fs) fs) (Err e) none
    (first_append (signatures_faults k.layouts fs) (bodies_faults (in_group k fs) fs) e h)

pub group_bodies : {T : Type 0} (k : Known) (fs : List FunTree) (r : Result T TypeError) → name_faults (names_of k.functions) fs ≡ [] → signatures_faults k.layouts fs ≡ [] → Judges (bodies_faults (in_group k fs) fs) r → Judges (decl_faults k (GroupDecl fs)) r
group_bodies k fs r none texts h =
    judges_behind (name_faults (names_of k.functions) fs) (signatures_faults k.layouts fs ++ bodies_faults (in_group k fs) fs) r none
    (judges_behind (signatures_faults k.layouts fs) (bodies_faults (in_group k fs) fs) r texts h)
