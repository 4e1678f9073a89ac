-- The walk over a declaration, from what its parts give.
use Rattle.std.proofs.Common.{◌≡◌, ◌∙◌, refl, ap, sym, subst, ℕ, ◌+◌, ◌-◌, min, true, List, [], ◌∷◌, ◌++◌, length, drop, None, Some, is_some, nat_lt, Ok, Err, arith, Vec, Global}
use Rattle.std.proofs.Math.ListN.{drop_of_length-le}
use Rattle.std.specs.Borrow.{Bor}
use Rattle.nv_ast.specs.declared.token.Span.{Span}
use Rattle.nv_ast.specs.Outline.{Layouts}
use Rattle.nv_ast.specs.Tree.{LayoutTree, TypeTrees, FunTree, DeclTree, LayoutDecl, ExceptionDecl, GroupDecl}
use Rattle.nv_ast.specs.Tests.{names_of, look_up, where_true}
use Rattle.nv_ast.specs.Types.{Tys, NamedTys, types_of, type_of, named_types_of}
use Rattle.nv_ast.specs.Scope.{Signature, Known, callable, plain_tys, param_vars, signature, in_group}
use Rattle.nv_ast.specs.Faults.{at_span, same_as, name_faults, signature_faults, signatures_faults, body_faults, bodies_faults, decl_faults}
use Rattle.nv_ast.specs.Sizes.{param_words, body_vars, expanded, need, group_size, group_need}
use Rattle.nv_ast.proofs.TypeWords.{plain_words}
use Rattle.nv_types_table.specs.declared.error.TypeError.{TypeError}
use Rattle.nv_types_table.specs.declared.error.TypeError.TheVariants.{NoMemory as WantOfMemory}
use Rattle.nv_types_table.specs.declared.shapes.Shape.{Shape}
use Rattle.nv_types_table.specs.declared.cost.Cost.{Cost}
use Rattle.nv_types_table.specs.declared.table.Facts.{Facts}
use Rattle.nv_types_scopes.specs.declared.functions.Function.{Function}
use Rattle.nv_types_scopes.specs.declared.functions.TypedExpr.{TypedExpr}
use Rattle.nv_types_scopes.specs.declared.functions.Checker.{Checker}
use Rattle.nv_types_scopes.specs.declared.expected.Expected.TheVariants.{Same}
use Rattle.nv_types_table.specs.inner.Cells.{most, still}
use Rattle.nv_types_table.specs.inner.Costs.{two_costs}
use Rattle.nv_types_table.specs.inner.Faulty.{IsFirstOf}
use Rattle.nv_types_table.specs.inner.Knowing.{AreKnown}
use Rattle.nv_types_scopes.specs.inner.Judging.{IsExpected}
use Rattle.nv_types_table.specs.inner.Store.{IsParts, field_names}
use Rattle.nv_types_scopes.specs.inner.Standing.{IsFunction, Holds, Sees, KeepsDeclared, Keeps}
use Rattle.nv_types_scopes.specs.inner.Texts.{ShapesWhole, TypesTexts}
use Rattle.nv_types_scopes.specs.inner.Walk.{Checks}
use Rattle.nv_types_scopes.specs.inner.Declarations.{Between, ChecksDecl, AreNew, SignsFunction, SignsAll, IsSigned, ChecksBody, ChecksBodies, costing, AddsCosts}
use Rattle.nv_types_table.proofs.Staying.{type_stays, parts_stay}
use Rattle.nv_types_table.proofs.Firsts.{first_append}
use Rattle.nv_types_scopes.proofs.Alikes.{alike_at, both_none, both_some}
use Rattle.nv_types_scopes.proofs.Holding.{holds_stays, counts_same, declared_trans, Keeps-refl, Keeps-trans}
use Rattle.nv_types_scopes.proofs.Standings.{sees_nothing, between_layout, between_exception}
use Rattle.nv_types_scopes.proofs.Groups.{are_new, known_names, all_signed, SignedSo, unknown, uncounted, signed_more, between_group, counts_group, BodiedSo, CountedSo, bodied_more, cost_more}
use Rattle.nv_types_scopes.proofs.Declaring.{found_nothing, layout_first, layout_then, exception_first, exception_types, exception_wide, group_first, group_texts, group_bodies}

-- a declaration with a fault
pub decl_err : {T : Type 0} (c new : Checker) (d : DeclTree) (e : TypeError) → ((k : Known) → Between c k → IsFirstOf (decl_faults k d) e) → ChecksDecl {T = T} c new d (Err e)
decl_err c new d e h = record { judged = h; known = λ k is. tt; counted = λ k sizes needs is counts. tt }

-- ---- layouts
pub layout_err : {T : Type 0} (c new : Checker) (x : List ℕ) (l : LayoutTree) (s : Span) (e : TypeError) → IsFirstOf (at_span s (where_true (is_some (look_up x c.layouts)) 2)) e → ChecksDecl {T = T} c new (LayoutDecl x l s) (Err e)
layout_err {T = T} c new x l s e h = decl_err {T = T} c new (LayoutDecl x l s) e (λ k is. layout_first c k x l s e is h)

pub layout_shape_err : {T : Type 0} (c mid new : Checker) (x : List ℕ) (l : LayoutTree) (s : Span) (e : TypeError) → at_span s (where_true (is_some (look_up x c.layouts)) 2) ≡ [] → ShapesWhole c mid s l (Err e)
    → ChecksDecl {T = T} c new (LayoutDecl x l s) (Err e)
layout_shape_err {T = T} c mid new x l s e none h = decl_err {T = T} c new (LayoutDecl x l s) e (λ k is. layout_then {T = T} c k x l s (Err e) is none (h.judged k is.holds))

pub layout_ok : {T : Type 0} (c mid : Checker) (x : List ℕ) (l : LayoutTree) (s : Span) (shape : Shape) (ls : List (List ℕ × Shape)) (r : T) → at_span s (where_true (is_some (look_up x c.layouts)) 2) ≡ [] → ShapesWhole c mid s l (Ok shape)
    → (look_up x mid.layouts ≡ None → ls ≡ mid.layouts ++ (x, shape) ∷ []) → ChecksDecl {T = T} c (record mid { layouts = ls }) (LayoutDecl x l s) (Ok r)
layout_ok {T = T} c mid x l s shape ls r none h add =
    let e = add (ap (look_up x) h.keeps.declared.same_layouts ∙ found_nothing s (look_up x c.layouts) 2 none) in
    record {
      judged = λ k is. layout_then {T = T} c k x l s (Ok r) is none (h.judged k is.holds);
      known = λ k is. between_layout c mid k x l s shape ls is h.keeps (h.shaped k is.holds) e;
      counted = λ k sizes needs is counts. counts_same c (record mid { layouts = ls }) h.keeps.declared.same_costs sizes needs counts;
    }

-- ---- exceptions
pub exception_err : {T : Type 0} (c new : Checker) (x : List ℕ) (ts : TypeTrees) (s : Span) (e : TypeError) → IsFirstOf (at_span s (where_true (is_some (look_up x c.exceptions)) 2)) e → ChecksDecl {T = T} c new (ExceptionDecl x ts s) (Err e)
exception_err {T = T} c new x ts s e h = decl_err {T = T} c new (ExceptionDecl x ts s) e (λ k is. exception_first c k x ts s e is h)

pub exception_types_err : {T : Type 0} (c mid new : Checker) (x : List ℕ) (ts : TypeTrees) (s : Span) (e : TypeError) → at_span s (where_true (is_some (look_up x c.exceptions)) 2) ≡ [] → TypesTexts c mid s ts (Err e)
    → ChecksDecl {T = T} c new (ExceptionDecl x ts s) (Err e)
exception_types_err {T = T} c mid new x ts s e none h = decl_err {T = T} c new (ExceptionDecl x ts s) e (λ k is. exception_types c k x ts s e is none (h.judged k is.holds))

pub exception_wide_err : {T : Type 0} (c mid new : Checker) (x : List ℕ) (ts : TypeTrees) (s : Span) (types : ℕ) (f : Facts) (e : TypeError) → at_span s (where_true (is_some (look_up x c.exceptions)) 2) ≡ [] → TypesTexts c mid s ts (Ok types)
    → ((us : Tys) → IsParts mid.table types us → AreKnown f us) → IsFirstOf (at_span s (where_true (nat_lt 8 f.words) 23)) e → ChecksDecl {T = T} c new (ExceptionDecl x ts s) (Err e)
exception_wide_err {T = T} c mid new x ts s types f e none h facts first =
    decl_err {T = T} c new (ExceptionDecl x ts s) e
    (λ k is. exception_wide {T = T} c k x ts s f.words (Err e) is none (h.judged k is.holds) (facts (types_of k.layouts ts) (h.typed k is.holds)).of_words first)

pub exception_ok : {T : Type 0} (c mid : Checker) (x : List ℕ) (ts : TypeTrees) (s : Span) (types : ℕ) (f : Facts) (es : List (List ℕ × ℕ)) (r : T) → at_span s (where_true (is_some (look_up x c.exceptions)) 2) ≡ [] → TypesTexts c mid s ts (Ok types)
    → ((us : Tys) → IsParts mid.table types us → AreKnown f us) → at_span s (where_true (nat_lt 8 f.words) 23) ≡ [] → (look_up x mid.exceptions ≡ None → es ≡ mid.exceptions ++ (x, types) ∷ [])
    → ChecksDecl {T = T} c (record mid { exceptions = es }) (ExceptionDecl x ts s) (Ok r)
exception_ok {T = T} c mid x ts s types f es r none h facts narrow add =
    let e = add (ap (look_up x) h.keeps.declared.same_exceptions ∙ found_nothing s (look_up x c.exceptions) 2 none) in
    record {
      judged = λ k is. exception_wide {T = T} c k x ts s f.words (Ok r) is none (h.judged k is.holds) (facts (types_of k.layouts ts) (h.typed k is.holds)).of_words narrow;
      known = λ k is. between_exception c mid k x ts s types es is h.keeps (h.typed k is.holds) e;
      counted = λ k sizes needs is counts. counts_same c (record mid { exceptions = es }) h.keeps.declared.same_costs sizes needs counts;
    }

-- ---- groups
pub group_names_err : {T : Type 0} (c new : Checker) (fs : List FunTree) (e : TypeError) → IsFirstOf (name_faults (names_of c.functions) fs) e → ChecksDecl {T = T} c new (GroupDecl fs) (Err e)
group_names_err {T = T} c new fs e h =
    decl_err {T = T} c new (GroupDecl fs) e (λ k is. group_first k fs e (subst (λ names. IsFirstOf (name_faults names fs) e) (known_names c k is) h))

known_none : (c : Checker) (k : Known) → Between c k → (fs : List FunTree) → name_faults (names_of c.functions) fs ≡ [] → name_faults (names_of k.functions) fs ≡ []
known_none c k is fs none = ap (λ names. name_faults names fs) (sym (known_names c k is)) ∙ none

pub group_texts_err : {T U : Type 0} (c mid new : Checker) (fs : List FunTree) (e : TypeError) → name_faults (names_of c.functions) fs ≡ [] → SignsAll {T = U} c mid fs (Err e) → ChecksDecl {T = T} c new (GroupDecl fs) (Err e)
group_texts_err {T = T} c mid new fs e none h =
    decl_err {T = T} c new (GroupDecl fs) e (λ k is. group_texts k fs e (known_none c k is fs none) (h.judged k is (are_new (names_of c.functions) fs none)))

pub group_bodies_err : {T U : Type 0} (c mid mid2 new : Checker) (fs : List FunTree) (x : U) (e : TypeError) → name_faults (names_of c.functions) fs ≡ [] → SignsAll {T = U} c mid fs (Ok x) → ChecksBodies mid mid2 fs (Err e) → ChecksDecl {T = T} c new (GroupDecl fs) (Err e)
group_bodies_err {T = T} c mid mid2 new fs x e none signs h =
    let fresh = are_new (names_of c.functions) fs none in
    decl_err {T = T} c new (GroupDecl fs) e
    (λ k is. group_bodies {T = T} k fs (Err e) (known_none c k is fs none) (signs.judged k is fresh)
    (h.judged (in_group k fs) (signs.signed k is fresh) (signs.same_scope ∙ is.no_variables) (all_signed c k is fs fresh)))

pub group_ok : {T U V E : Type 0} (c mid mid2 new : Checker) (fs : List FunTree) (x : U) (whole : Cost) (y : V) (r : T) → name_faults (names_of c.functions) fs ≡ [] → SignsAll {T = U} c mid fs (Ok x) → ChecksBodies mid mid2 fs (Ok whole)
    → AddsCosts {T = V} {E = E} mid2 new fs whole (Ok y) → ChecksDecl {T = T} c new (GroupDecl fs) (Ok r)
group_ok {T = T} c mid mid2 new fs x whole y r none signs bodies adds =
    let fresh = are_new (names_of c.functions) fs none in
    record {
      judged = λ k is. group_bodies {T = T} k fs (Ok r) (known_none c k is fs none) (signs.judged k is fresh) (bodies.judged (in_group k fs) (signs.signed k is fresh) (signs.same_scope ∙ is.no_variables) (all_signed c k is fs fresh));
      known = λ k is.
          let keeps = bodies.keeps (signs.same_scope ∙ is.no_variables) in
          between_group c mid2 new k fs whole is (holds_stays mid mid2 (in_group k fs) keeps.declared (signs.signed k is fresh)) adds.same_table adds.same_layouts adds.same_exceptions adds.same_functions
          (costs_so k is) (adds.same_scope ∙ keeps.same_scope ∙ signs.same_scope ∙ is.no_variables);
      counted = λ k sizes needs is counts.
          counts_group c new sizes needs whole (group_size sizes (in_group k fs) fs) (group_need needs (in_group k fs) fs) fs counts
          (bodies.counted (in_group k fs) sizes needs (signs.signed k is fresh) (signs.same_scope ∙ is.no_variables) (all_signed c k is fs fresh) (counts_same c mid signs.same_costs sizes needs counts))
          (costs_so k is);
    }
  where
    costs_so : (k : Known) → Between c k → new.costs ≡ c.costs ++ costing whole fs
    costs_so k is =
        let keeps = bodies.keeps (signs.same_scope ∙ is.no_variables) in
        let same : mid2.costs ≡ c.costs = keeps.declared.same_costs ∙ signs.same_costs in
        adds.added (subst (λ names. AreNew names fs) (sym (ap names_of same ∙ is.all_counted)) (are_new (names_of c.functions) fs none)) ∙ ap (λ l. l ++ costing whole fs) same

-- ---- signatures
pub signs_err : {T U : Type 0} (c now new : Checker) (all done rest : List FunTree) (f : FunTree) (e : TypeError) → SignedSo c now all done (f ∷ rest) → SignsFunction {T = U} now new f (Err e) → SignsAll {T = T} c new all (Err e)
signs_err c now new all done rest f e so h = record {
  judged = λ k is fresh.
      let s = so k is fresh in
      subst (λ l. IsFirstOf l e) (sym s.left) (first_append (signature_faults k.layouts f) (signatures_faults k.layouts rest) e (h.judged (in_group k done) s.holds));
  signed = λ k is fresh. tt;
  same_costs = tt;
  same_scope = tt;
}

pub signs_more : {U : Type 0} (c now new : Checker) (all done rest : List FunTree) (f : FunTree) (x : U) → SignedSo c now all done (f ∷ rest) → now.costs ≡ c.costs → SignsFunction {T = U} now new f (Ok x) → SignedSo c new all (done ++ f ∷ []) rest
signs_more c now new all done rest f x so same h = λ k is fresh.
    let s = so k is fresh in
    signed_more c now new k all done rest f s (h.judged (in_group k done) s.holds) (h.signed (in_group k done) s.holds (unknown c now k all done rest f s) (uncounted c now k all done rest f is same s))

pub signs_end : {T : Type 0} (c now : Checker) (all : List FunTree) (r : T) → SignedSo c now all all [] → now.costs ≡ c.costs → now.scope ≡ c.scope → SignsAll {T = T} c now all (Ok r)
signs_end c now all r so costs scope = record {
  judged = λ k is fresh. (so k is fresh).left;
  signed = λ k is fresh. (so k is fresh).holds;
  same_costs = costs;
  same_scope = scope;
}

-- ---- bodies
pub bodies_err : (c now new : Checker) (all rest : List FunTree) (f : FunTree) (e : TypeError) → BodiedSo c all (f ∷ rest) → (c.scope ≡ [] → Keeps c now) → ChecksBody now new f (Err e) → ChecksBodies c new all (Err e)
bodies_err c now new all rest f e so kept h = record {
  judged = λ k holds scope signed.
      let b = so k holds scope signed in
      let keeps = kept scope in
      subst (λ l. IsFirstOf l e) (sym b.left) (first_append (body_faults k f) (bodies_faults k rest) e (h.judged k (holds_stays c now k keeps.declared holds) (keeps.same_scope ∙ scope) b.signed.0));
  counted = λ k sizes needs holds scope signed counts. tt;
  keeps = λ scope. tt;
}

pub bodies_so : (c now new : Checker) (all rest : List FunTree) (f : FunTree) (cost : Cost) → BodiedSo c all (f ∷ rest) → (c.scope ≡ [] → Keeps c now) → ChecksBody now new f (Ok cost) → BodiedSo c all rest
bodies_so c now new all rest f cost so kept h = λ k holds scope signed.
    let b = so k holds scope signed in
    let keeps = kept scope in
    bodied_more k all rest f b (h.judged k (holds_stays c now k keeps.declared holds) (keeps.same_scope ∙ scope) b.signed.0)

pub bodies_counted : (c now new : Checker) (all done rest : List FunTree) (f : FunTree) (whole cost : Cost) → BodiedSo c all (f ∷ rest) → (c.scope ≡ [] → Keeps c now) → ChecksBody now new f (Ok cost) → CountedSo c whole all done
    → CountedSo c (two_costs whole cost) all (done ++ f ∷ [])
bodies_counted c now new all done rest f whole cost so kept h counted = λ k sizes needs holds scope signed counts.
    let b = so k holds scope signed in
    let keeps = kept scope in
    cost_more sizes needs k done f whole cost (counted k sizes needs holds scope signed counts)
    (h.counted k sizes needs (holds_stays c now k keeps.declared holds) (keeps.same_scope ∙ scope) b.signed.0 (counts_same c now keeps.declared.same_costs sizes needs counts))

pub bodies_keeps : (c now new : Checker) (f : FunTree) (cost : Cost) → (c.scope ≡ [] → Keeps c now) → ChecksBody now new f (Ok cost) → c.scope ≡ [] → Keeps c new
bodies_keeps c now new f cost kept h scope = let keeps = kept scope in Keeps-trans c now new keeps (h.keeps (keeps.same_scope ∙ scope))

pub bodies_end : (c now : Checker) (all : List FunTree) (whole : Cost) → BodiedSo c all [] → CountedSo c whole all all → (c.scope ≡ [] → Keeps c now) → ChecksBodies c now all (Ok whole)
bodies_end c now all whole so counted kept = record {
  judged = λ k holds scope signed. (so k holds scope signed).left;
  counted = counted;
  keeps = kept;
}

-- ---- one body
known_function : (c : Checker) (k : Known) (f : FunTree) (g : Function) → Holds c k → IsSigned k f → look_up f.name c.functions ≡ Some g → IsFunction c.table g (signature k.layouts f)
known_function c k f g h signed e =
    both_some (IsFunction c.table) (look_up f.name c.functions) (look_up f.name (callable k)) g (signature k.layouts f) (alike_at (IsFunction c.table) c.functions (callable k) h.of_functions f.name) e signed

clash_signature : (s : Signature) → Some s ≡ None → ⊥
clash_signature s q = cc

not_unknown : (c : Checker) (k : Known) (f : FunTree) → Holds c k → IsSigned k f → look_up f.name c.functions ≡ None → ⊥
not_unknown c k f h signed e =
    clash_signature (signature k.layouts f)
    (sym signed ∙ both_none (IsFunction c.table) (look_up f.name c.functions) (look_up f.name (callable k)) (alike_at (IsFunction c.table) c.functions (callable k) h.of_functions f.name) e)

pub body_unknown : (c : Checker) (f : FunTree) (cost : Cost) → look_up f.name c.functions ≡ None → ChecksBody c c f (Ok cost)
body_unknown c f cost e = record {
  judged = λ k holds scope signed. absurd (not_unknown c k f holds signed e);
  counted = λ k sizes needs holds scope signed counts. absurd (not_unknown c k f holds signed e);
  keeps = λ scope. Keeps-refl c;
}

-- what binding the parameters of a function gives
pub record Bound (c now : Checker) (g : Function) (names : List (List ℕ)) : Type 0 where
  pub sees : (ts : NamedTys) → IsParts c.table g.params (plain_tys ts) → field_names ts ≡ names → Sees c [] → Sees now (param_vars ts [])
  pub keeps : KeepsDeclared c now

record Inside (now : Checker) (g : Function) (k : Known) (f : FunTree) : Type 0 where
  pub holds : Holds now k
  pub sees : Sees now (body_vars k f)
  pub expected : IsExpected now.table (Same g.result) (same_as (Some (type_of k.layouts f.result)))
  pub params : IsParts now.table g.params (plain_tys (named_types_of k.layouts f.params))

uncleared : (c now : Checker) (written : Vec (Bor (List ℕ)) Global) → KeepsDeclared (record c { written = written }) now → KeepsDeclared c now
uncleared c now written h = record { grows = h.grows; same_layouts = h.same_layouts; same_exceptions = h.same_exceptions; same_functions = h.same_functions; same_costs = h.same_costs }

body_inside : (c now : Checker) (k : Known) (f : FunTree) (g : Function) → (written : Vec (Bor (List ℕ)) Global) (names : List (List ℕ)) → ((layouts : Layouts) → field_names (named_types_of layouts f.params) ≡ names) → Bound (record c { written = written }) now g names
    → look_up f.name c.functions ≡ Some g → Holds c k → c.scope ≡ [] → IsSigned k f → Inside now g k f
body_inside c now k f g written names named bound e holds scope signed =
    let is = known_function c k f g holds signed e in
    record {
      holds = holds_stays c now k (uncleared c now written bound.keeps) holds;
      sees = bound.sees (named_types_of k.layouts f.params) is.of_params (named k.layouts) (sees_nothing c scope);
      expected = (type_of k.layouts f.result, type_stays c.table now.table bound.keeps.grows g.result (type_of k.layouts f.result) is.of_result, refl);
      params = parts_stay c.table now.table bound.keeps.grows g.params (plain_tys (named_types_of k.layouts f.params)) is.of_params;
    }

pub body_err : (c now last new : Checker) (f : FunTree) (g : Function) (e : TypeError) → (written : Vec (Bor (List ℕ)) Global) (names : List (List ℕ)) → ((layouts : Layouts) → field_names (named_types_of layouts f.params) ≡ names) → Bound (record c { written = written }) now g names
    → look_up f.name c.functions ≡ Some g → Checks now last true (Same g.result) f.body (Err e) → ChecksBody c new f (Err e)
body_err c now last new f g e written names named bound known h = record {
  judged = λ k holds scope signed.
      let is = body_inside c now k f g written names named bound known holds scope signed in
      h.judged k (body_vars k f) (same_as (Some (type_of k.layouts f.result))) is.holds is.sees is.expected;
  counted = λ k sizes needs holds scope signed counts. tt;
  keeps = λ scope. tt;
}

all_dropped : {A : Type 0} (xs : List A) (n : ℕ) → n ≡ 0 → drop (length xs - n) xs ≡ []
all_dropped xs n e = drop_of_length-le xs (omega (arith, e))

size_with : (a w e p : ℕ) → a ≡ still e → w ≡ still p → min (min (a + w) most + 1) most ≡ still (1 + (p + e))
size_with a w e p x y = omega (arith, x, y)

need_with : (a w e p : ℕ) → a ≡ still e → w ≡ still p → min (a + w) most ≡ still (p + e)
need_with a w e p x y = omega (arith, x, y)

pub body_ok : (c now last : Checker) (f : FunTree) (g : Function) (found : TypedExpr) (facts : Facts) (scope : List (List ℕ × ℕ)) (mark size most_need : ℕ) → (written : Vec (Bor (List ℕ)) Global) (names : List (List ℕ)) → ((layouts : Layouts) → field_names (named_types_of layouts f.params) ≡ names) → Bound (record c { written = written }) now g names
    → look_up f.name c.functions ≡ Some g → Checks now last true (Same g.result) f.body (Ok found) → mark ≡ length c.scope → scope ≡ drop (length last.scope - mark) last.scope
    → ((us : Tys) → IsParts last.table g.params us → AreKnown facts us)
    → size ≡ min (min (found.cost.size + facts.words) most + 1) most → most_need ≡ min (found.cost.need + facts.words) most
    → ChecksBody c (record last { scope = scope }) f (Ok (record { words = 0; size = size; need = most_need }))
body_ok c now last f g found facts scope mark size most_need written names named bound known h marked left knows x y = record {
  judged = λ k holds none signed.
      let is = body_inside c now k f g written names named bound known holds none signed in
      h.judged k (body_vars k f) (same_as (Some (type_of k.layouts f.result))) is.holds is.sees is.expected;
  counted = λ k sizes needs holds none signed counts.
      let is = body_inside c now k f g written names named bound known holds none signed in
      let cost = h.counted k (body_vars k f) sizes needs is.holds is.sees (counts_same c now bound.keeps.same_costs sizes needs counts) in
      let ts = named_types_of k.layouts f.params in
      let params = (knows (plain_tys ts) (parts_stay now.table last.table h.keeps.declared.grows g.params (plain_tys ts) is.params)).of_words ∙ ap still (plain_words ts) in
      record {
        of_words = refl;
        of_size = x ∙ size_with found.cost.size facts.words (expanded sizes k (body_vars k f) f.body) (param_words k f) cost.of_size params;
        of_need = y ∙ need_with found.cost.need facts.words (need needs k (body_vars k f) f.body) (param_words k f) cost.of_need params;
      };
  keeps = λ none. record {
    declared =
        let all = declared_trans c now last (uncleared c now written bound.keeps) h.keeps.declared in
        record { grows = all.grows; same_layouts = all.same_layouts; same_exceptions = all.same_exceptions; same_functions = all.same_functions; same_costs = all.same_costs };
    same_scope = left ∙ all_dropped last.scope mark (marked ∙ ap length none) ∙ sym none;
  };
}

-- ---- memory exhaustion
pub decl_no_memory : {T : Type 0} (c new : Checker) (d : DeclTree) → ChecksDecl {T = T} c new d (Err WantOfMemory)
decl_no_memory c new d = record { judged = λ k is. tt; known = λ k is. tt; counted = λ k sizes needs is counts. tt }

pub body_no_memory : (c new : Checker) (f : FunTree) → ChecksBody c new f (Err WantOfMemory)
body_no_memory c new f = record { judged = λ k holds scope signed. tt; counted = λ k sizes needs holds scope signed counts. tt; keeps = λ scope. tt }
