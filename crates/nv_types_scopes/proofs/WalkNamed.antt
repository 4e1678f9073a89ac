-- The arms of the walk over an expression that look something up.
use Rattle.std.proofs.Common.{◌≡◌, ◌∙◌, refl, ap, sym, subst, ℕ, ◌+◌, ◌*◌, ◌/◌, ◌≤◌, min, Bool, true, false, not, ◌||◌, cond, List, [], ◌∷◌, ◌++◌, append-nil, length, Option, None, Some, is_none, is_some, Result, Ok, Err, bytes_eq, arith}
use Rattle.std.specs.Result.{IfOk}
use Rattle.std.specs.Prelude.{option_map}
use Rattle.nv_ast.specs.declared.token.Span.{Span}
use Rattle.nv_ast.specs.Tree.{Tree, VarTree, DotTree, UnpackTree, PackTree, span_of}
use Rattle.nv_ast.specs.Outline.{OutlineTree, bit_fields, size}
use Rattle.nv_ast.specs.LayoutFaults.{unknown_layout}
use Rattle.nv_ast.specs.Scope.{Known, Vars, Context}
use Rattle.nv_ast.specs.Types.{Ty, RecordTy, NamedTys, Form, RecordForm, form_of, record_forms, unpacked, unpacked_all, unpacked_ty, packed_ty, words_ty, can_pack}
use Rattle.nv_ast.specs.Typing.{type_at, field_ty}
use Rattle.nv_ast.specs.Tests.{look_up, where_true, is_among, names_of}
use Rattle.nv_ast.specs.Faults.{Expected as ExpectedTree, at_span, a_value, faults, node_faults, low_kinds, middle_kinds, other_type, no_value, too_large_value, no_field, expected_packed, expected_unpacked}
use Rattle.nv_ast.specs.Sizes.{words_at, expanded, need, variables, field_size}
use Rattle.nv_types_table.specs.declared.error.TypeError.{TypeError}
use Rattle.nv_types_table.specs.declared.error.TypeError.TheVariants.{Fault}
use Rattle.nv_types_scopes.specs.declared.expected.Expected.{Expected}
use Rattle.nv_types_scopes.specs.declared.expected.Expected.TheVariants.{Value, Typed, Packed}
use Rattle.nv_types_table.specs.declared.cost.Cost.{Cost}
use Rattle.nv_types_table.specs.declared.shapes.Shape.{Shape}
use Rattle.nv_types_scopes.specs.declared.functions.Checker.{Checker}
use Rattle.nv_types_scopes.specs.declared.functions.TypedExpr.{TypedExpr}
use Rattle.nv_types_table.specs.inner.Faulty.{IsFirstOf}
use Rattle.nv_types_table.specs.inner.Store.{Store, IsType, IsFields, IsValue}
use Rattle.nv_types_table.specs.inner.Layouts.{IsDeclared}
use Rattle.nv_types_table.specs.inner.Cells.{still}
use Rattle.nv_types_table.specs.inner.Costs.{IsCost, two_costs, node_cost}
use Rattle.nv_types_scopes.specs.inner.Standing.{Holds, Sees, Keeps, place, written_in}
use Rattle.nv_types_scopes.specs.inner.Walk.{Checks}
use Rattle.nv_types_scopes.proofs.Holding.{Keeps-refl, Keeps-trans, holds_stays, sees_stay}
use Rattle.nv_types_scopes.proofs.Alikes.{alike_at, both_none, both_found, Both}
use Rattle.nv_types_scopes.proofs.WalkCosts.{no_cost, leaf_costs, node_costs, part_and_fields}
use Rattle.nv_types_scopes.proofs.WalkNodes.{Parts, WantsPart, one_part, part_within, failed, part_failed, later_failed, own_faults, node_checks}
use Rattle.nv_types_scopes.proofs.WalkValues.{has_value}
use Rattle.nv_types_scopes.proofs.WalkArms.{IsJudged, IsCounted, over_stands}

-- ---- the first of a node's own kinds
pub low_first : (p : Context) (w : ExpectedTree) (e : Tree) (kind : ℕ) (later : List ℕ) → low_kinds p e ≡ kind ∷ later → IsFirstOf (node_faults p w e) (Fault kind (span_of e))
low_first p w e kind later h =
    let t = type_at p.known p.vars e in
    let rest = other_type w t ++ (middle_kinds p e ++ (no_value w t ++ too_large_value t)) in
    (at_span (span_of e) (later ++ rest), ap (λ (xs : List ℕ). at_span (span_of e) (xs ++ rest)) h)

pub middle_first : (p : Context) (w : ExpectedTree) (e : Tree) (kind : ℕ) (later : List ℕ) → low_kinds p e ≡ [] → type_at p.known p.vars e ≡ None → middle_kinds p e ≡ kind ∷ later → IsFirstOf (node_faults p w e) (Fault kind (span_of e))
middle_first p w e kind later l t m = (
  at_span (span_of e) (later ++ (no_value w None ++ [])),
  ap (λ (xs : List ℕ). at_span (span_of e) (xs ++ (other_type w (type_at p.known p.vars e) ++ (middle_kinds p e ++ (no_value w (type_at p.known p.vars e) ++ too_large_value (type_at p.known p.vars e)))))) l
      ∙ ap (λ (u : Option Ty). at_span (span_of e) (other_type w u ++ (middle_kinds p e ++ (no_value w u ++ too_large_value u)))) t
      ∙ ap (λ (xs : List ℕ). at_span (span_of e) (xs ++ (no_value w None ++ []))) m,
)

-- a node behind clean parts has a fault of its own
pub own_failed : (c new : Checker) (tail : Bool) (expected : Expected) (e : Tree) (kind : ℕ)
    → ((k : Known) (vars : Vars) (v : ExpectedTree) → Holds c k → Sees c vars → faults (place k vars tail) v e ≡ node_faults (place k vars tail) v e)
    → ((k : Known) (vars : Vars) (v : ExpectedTree) → Holds c k → Sees c vars → IsFirstOf (node_faults (place k vars tail) v e) (Fault kind (span_of e)))
    → Checks c new tail expected e (Err (Fault kind (span_of e)))
own_failed c new tail expected e kind own first = failed c new tail expected e (Fault kind (span_of e)) (λ k vars v holds sees is.
    subst (λ l. IsFirstOf l (Fault kind (span_of e))) (sym (own k vars v holds sees)) (first k vars v holds sees))

-- ---- variables
seen : (c : Checker) (x : List ℕ) (vars : Vars) → Sees c vars → Both (IsType c.table) (look_up x c.scope) (look_up x vars)
seen c x vars sees = alike_at (IsType c.table) c.scope vars sees x

pub variable_checks : (c new : Checker) (expected : Expected) (s : Span) (x : List ℕ) (t : ℕ) (parts : Cost) (r : Result TypedExpr TypeError) → Keeps c new → written_in new ≡ written_in c ++ x ∷ [] → look_up x new.scope ≡ Some t → parts ≡ record { words = 0; size = 0; need = 0 }
    → IsJudged new s expected (Some t) None None r → IfOk r (λ f. f.value ≡ Some t) → IsCounted new (Some t) parts r → Checks c new false expected (VarTree s x) r
variable_checks c new expected s x t parts r keeps writes found none judged same counted =
    let typed : (vars : Vars) → Sees c vars → (u : Ty) × (look_up x vars ≡ Some u) × IsType new.table t u = λ vars sees. both_found (IsType new.table) (look_up x new.scope) (look_up x vars) t (seen new x vars (sees_stay c new vars keeps sees)) found in
    node_checks c new false expected (VarTree s x) (Some t) parts None None r
    (record {
      own = λ k vars v holds sees. refl;
      low_is = λ k vars holds sees. ap (λ (o : Option Ty). where_true {A = ℕ} (is_none o) 10) (typed vars sees).1;
      middle_is = λ k vars holds sees. refl;
      valued = λ k vars holds sees. let u = typed vars sees in subst (λ (o : Option Ty). IsValue new.table (Some t) o) (sym u.1) u.2;
      counted = λ k vars sizes needs holds sees counts.
          subst (λ (a : Cost). IsCost (node_cost (still (words_at k vars (VarTree s x))) a) (words_at k vars (VarTree s x)) (1 + words_at k vars (VarTree s x)) (2 + words_at k vars (VarTree s x))) (sym none) (leaf_costs (words_at k vars (VarTree s x)));
      keeps = keeps;
      writes = writes;
    }) judged same counted

pub variable_unknown : (c new : Checker) (expected : Expected) (s : Span) (x : List ℕ) → look_up x c.scope ≡ None → Checks c new false expected (VarTree s x) (Err (Fault 10 s))
variable_unknown c new expected s x none =
    own_failed c new false expected (VarTree s x) 10 (λ k vars v holds sees. refl)
    (λ k vars v holds sees. low_first (place k vars false) v (VarTree s x) 10 []
    (ap (λ (o : Option Ty). where_true {A = ℕ} (is_none o) 10) (both_none (IsType c.table) (look_up x c.scope) (look_up x vars) (seen c x vars sees) none)))

-- ---- dots
pub dot_failed : (c b : Checker) (expected : Expected) (s : Span) (e : Tree) (x : List ℕ) (error : TypeError) → Checks c b false Value e (Err error) → (new : Checker) → Checks c new false expected (DotTree s e x) (Err error)
dot_failed c b expected s e x error h new =
    part_failed c new b false false expected Value (DotTree s e x) e error (λ k vars. a_value) (λ k vars v. node_faults (place k vars false) v (DotTree s e x)) h (λ k vars holds sees. refl) (λ k vars v. refl)

-- the number of the field's type, if there is such a field
abbrev pub IsField : Checker → List ℕ → Option ℕ → Option ℕ → Type 0
IsField c x value field = (u : Option Ty) → IsValue c.table value u → IsValue c.table field (field_ty x u)

pub field_of_some : (c : Checker) (x : List ℕ) (i : ℕ) (field : Option ℕ) → ((u : Ty) → IsType c.table i u → IsValue c.table field (field_ty x (Some u))) → IsField c x (Some i) field
field_of_some c x i field h (Some u) is = h u is
field_of_some c x i field h None is = absurd is

pub field_of_none : (c : Checker) (x : List ℕ) → IsField c x None None
field_of_none c x None is = tt
field_of_none c x (Some u) is = absurd is

value_there : (s : Store) (t : ℕ) (o : Option Ty) → IsValue s (Some t) o → where_true {A = ℕ} (is_none o) 15 ≡ []
value_there s t (Some u) h = refl
value_there s t None h = absurd h

value_not_there : (s : Store) (o : Option Ty) → IsValue s None o → o ≡ None
value_not_there s None h = refl
value_not_there s (Some u) h = absurd h

no_field_right : (s : Store) (t : ℕ) (x : List ℕ) (u : Option Ty) → IsValue s (Some t) (field_ty x u) → no_field x u ≡ []
no_field_right s t x None h = refl
no_field_right s t x (Some u) h = value_there s t (field_ty x (Some u)) h

pub dot_checks : (c new : Checker) (expected : Expected) (s : Span) (e : Tree) (x : List ℕ) (part : TypedExpr) (t : ℕ) (r : Result TypedExpr TypeError) → Checks c new false Value e (Ok part) → IsField new x part.value (Some t)
    → IsJudged new s expected (Some t) None None r → IfOk r (λ f. f.value ≡ Some t) → IsCounted new (Some t) part.cost r → Checks c new false expected (DotTree s e x) r
dot_checks c new expected s e x part t r h field judged same counted = node_checks c new false expected (DotTree s e x) (Some t) part.cost None None r
    (over_stands c new false false (DotTree s e x) e (λ k vars. a_value) (Some t) part.cost part.cost None None (one_part c new false Value e part (λ k vars. a_value) (λ k vars holds sees. refl) h) refl
    (λ k vars v. refl) refl (λ sizes k vars. refl) (λ needs k vars. refl) (λ k vars holds sees. refl)
    (λ k vars holds sees. no_field_right new.table t x (type_at k vars e) (field (type_at k vars e) (h.typed k vars holds sees)))
    (λ k vars holds sees. field (type_at k vars e) (h.typed k vars holds sees))) judged same counted

pub dot_unknown : (c d new : Checker) (expected : Expected) (s : Span) (e : Tree) (x : List ℕ) (part : TypedExpr) → Checks c d false Value e (Ok part) → IsField d x part.value None → Checks c new false expected (DotTree s e x) (Err (Fault 15 s))
dot_unknown c d new expected s e x part h field =
    let one = one_part c d false Value e part (λ k vars. a_value) (λ k vars holds sees. refl) h in
    own_failed c new false expected (DotTree s e x) 15
    (own_faults c d false (DotTree s e x) part.cost (λ k vars. faults (place k vars false) a_value e) (λ k vars. words_at k vars e) (λ sizes k vars. expanded sizes k vars e) (λ needs k vars. need needs k vars e) (variables e) one (λ k vars v. refl))
    (λ k vars v holds sees.
    let u = has_value (place k vars false) a_value e refl (one.clean k vars holds sees) in
    let none = value_not_there d.table (field_ty x (type_at k vars e)) (field (type_at k vars e) (h.typed k vars holds sees)) in
    middle_first (place k vars false) v (DotTree s e x) 15 [] refl none
    (ap (no_field x) u.1 ∙ ap (λ (o : Option Ty). where_true {A = ℕ} (is_none o) 15) (sym (ap (field_ty x) u.1) ∙ none)))

-- ---- nothing but a larger table before a part
pub nothing_yet : (c d : Checker) → Keeps c d → written_in d ≡ written_in c → Parts c d (record { words = 0; size = 0; need = 0 }) (λ k vars. []) (λ k vars. 0) (λ sizes k vars. 0) (λ needs k vars. 0) []
nothing_yet c d keeps same = record {
  clean = λ k vars holds sees. refl;
  counted = λ k vars sizes needs holds sees counts. no_cost;
  keeps = keeps;
  writes = same ∙ sym (append-nil (written_in c));
}

-- ---- layouts
pub among_names : {A : Type 0} (x : List ℕ) (l : List (List ℕ × A)) → is_among x (names_of l) ≡ is_some (look_up x l)
among_names x [] = refl
among_names x ((y, a) ∷ rest) = by (bytes_eq x y) (is_among x (names_of rest)) (among_names x rest)
  where
    by : (b m : Bool) → m ≡ is_some (look_up x rest) → (b || m) ≡ is_some (cond b (Some a) (look_up x rest))
    by true m e = refl
    by false m e = e

layout_known : (x : List ℕ) (layouts : List (List ℕ × OutlineTree)) (o : OutlineTree) → look_up x layouts ≡ Some o → unknown_layout layouts x ≡ []
layout_known x layouts o e = ap (λ b. where_true {A = ℕ} (not b) 3) (among_names x layouts ∙ ap is_some e)

layout_unknown : (x : List ℕ) (layouts : List (List ℕ × OutlineTree)) → look_up x layouts ≡ None → unknown_layout layouts x ≡ 3 ∷ []
layout_unknown x layouts e = ap (λ b. where_true {A = ℕ} (not b) 3) (among_names x layouts ∙ ap is_some e)

-- the outline under a name
abbrev IsOutline : Checker → List ℕ → Shape → Known → Type 0
IsOutline c x shape k = (o : OutlineTree) × (look_up x k.layouts ≡ Some o) × IsDeclared c.table shape o

outline_there : (c : Checker) (x : List ℕ) (shape : Shape) (k : Known) → Holds c k → look_up x c.layouts ≡ Some shape → IsOutline c x shape k
outline_there c x shape k holds e = both_found (IsDeclared c.table) (look_up x c.layouts) (look_up x k.layouts) shape (alike_at (IsDeclared c.table) c.layouts k.layouts holds.of_layouts x) e

outline_not_there : (c : Checker) (x : List ℕ) (k : Known) → Holds c k → look_up x c.layouts ≡ None → look_up x k.layouts ≡ None
outline_not_there c x k holds e = both_none (IsDeclared c.table) (look_up x c.layouts) (look_up x k.layouts) (alike_at (IsDeclared c.table) c.layouts k.layouts holds.of_layouts x) e

packed_so : (s : Store) (shape : Shape) (o : OutlineTree) (i n : ℕ) → IsDeclared s shape o → n ≡ (min shape.bits 1024 + 31) / 32 → (t : Store) → IsType t i (words_ty n) → IsType t i (packed_ty o)
packed_so s shape o i n h e t is =
    let bits : min shape.bits 1024 ≡ size o = by shape.bits (size o) h.shaped.of_bits h.short in
    subst (λ (m : ℕ). IsType t i (words_ty m)) (e ∙ ap (λ (m : ℕ). (m + 31) / 32) bits) is
  where
    by : (a b : ℕ) → a ≡ still b → b ≤ 1024 → min a 1024 ≡ b
    by a b e l = omega arith

unpacked_so : (t : Store) (shape : Shape) (o : OutlineTree) (i : ℕ) → form_of o ≡ RecordForm (record_forms o) → IsType t i (RecordTy (unpacked_all (record_forms o))) → IsType t i (unpacked_ty o)
unpacked_so t shape o i e is = subst (λ (f : Form). IsType t i (unpacked f)) (sym e) is

-- ---- unpack
abbrev unpack_wants : List ℕ → Known → Vars → ExpectedTree
unpack_wants x k vars = expected_packed (look_up x k.layouts)

pub unpack_other : (c b : Checker) (expected : Expected) (s : Span) (x : List ℕ) (e : Tree) (error : TypeError) → look_up x c.layouts ≡ None → Checks c b false Value e (Err error) → (new : Checker) → Checks c new false expected (UnpackTree s x e) (Err error)
unpack_other c b expected s x e error none h new =
    part_failed c new b false false expected Value (UnpackTree s x e) e error (unpack_wants x) (λ k vars v. node_faults (place k vars false) v (UnpackTree s x e)) h
    (λ k vars holds sees. ap expected_packed (outline_not_there c x k holds none)) (λ k vars v. refl)

pub unpack_unknown : (c d : Checker) (expected : Expected) (s : Span) (x : List ℕ) (e : Tree) (part : TypedExpr) → look_up x c.layouts ≡ None → Checks c d false Value e (Ok part) → (new : Checker) → Checks c new false expected (UnpackTree s x e) (Err (Fault 3 s))
unpack_unknown c d expected s x e part none h new =
    let one = one_part c d false Value e part (unpack_wants x) (λ k vars holds sees. ap expected_packed (outline_not_there c x k holds none)) h in
    own_failed c new false expected (UnpackTree s x e) 3
    (own_faults c d false (UnpackTree s x e) part.cost (λ k vars. faults (place k vars false) (unpack_wants x k vars) e) (λ k vars. words_at k vars e) (λ sizes k vars. expanded sizes k vars e) (λ needs k vars. need needs k vars e) (variables e) one (λ k vars v. refl))
    (λ k vars v holds sees. low_first (place k vars false) v (UnpackTree s x e) 3 [] (layout_unknown x k.layouts (outline_not_there c x k holds none)))

unpack_wanted : (c d : Checker) (x : List ℕ) (shape : Shape) (i n : ℕ) → Keeps c d → look_up x c.layouts ≡ Some shape → n ≡ (min shape.bits 1024 + 31) / 32 → IsType d.table i (words_ty n) → WantsPart d (Typed i) (unpack_wants x)
unpack_wanted c d x shape i n keeps known count is k vars holds sees =
    let o = outline_there d x shape k holds (ap (look_up x) keeps.declared.same_layouts ∙ known) in
    (packed_ty o.0, packed_so d.table shape o.0 i n o.2 count d.table is, ap expected_packed o.1)

pub unpack_failed : (c d b : Checker) (expected : Expected) (s : Span) (x : List ℕ) (e : Tree) (shape : Shape) (i n : ℕ) (error : TypeError) → Keeps c d → written_in d ≡ written_in c → look_up x c.layouts ≡ Some shape → n ≡ (min shape.bits 1024 + 31) / 32 → IsType d.table i (words_ty n)
    → Checks d b false (Typed i) e (Err error) → (new : Checker) → Checks c new false expected (UnpackTree s x e) (Err error)
unpack_failed c d b expected s x e shape i n error keeps same known count is h new =
    later_failed c d b new false false expected (Typed i) (UnpackTree s x e) e error (unpack_wants x) (λ k vars v. node_faults (place k vars false) v (UnpackTree s x e))
    (record { words = 0; size = 0; need = 0 }) (λ k vars. []) (λ k vars. 0) (λ sizes k vars. 0) (λ needs k vars. 0) [] (nothing_yet c d keeps same) h (unpack_wanted c d x shape i n keeps known count is) (λ k vars v. refl)

-- a part whose bit fields are moved
moved_costs : (part parts : Cost) (fields v w s n m : ℕ) (o : Option OutlineTree) → IsCost part w s n → fields ≡ still m → field_size o ≡ 4 * m → parts ≡ two_costs part (record { words = 0; size = still (4 * fields); need = 0 })
    → IsCost (node_cost (still v) parts) v ((1 + v) + (field_size o + s)) ((2 + v) + (w + n))
moved_costs part parts fields v w s n m o h f is same =
    subst (λ (a : Cost). IsCost (node_cost (still v) a) v ((1 + v) + (field_size o + s)) ((2 + v) + (w + n))) (sym same)
    (subst (λ (a : ℕ). IsCost (node_cost (still v) (two_costs part (record { words = 0; size = still (4 * fields); need = 0 }))) v ((1 + v) + (a + s)) ((2 + v) + (w + n))) (sym is)
    (node_costs (two_costs part (record { words = 0; size = still (4 * fields); need = 0 })) v w (4 * m + s) n (part_and_fields part fields w s n m h f)))

pub unpack_checks : (c d b new : Checker) (expected : Expected) (s : Span) (x : List ℕ) (e : Tree) (shape : Shape) (i n t : ℕ) (part : TypedExpr) (parts : Cost) (r : Result TypedExpr TypeError)
    → Keeps c d → written_in d ≡ written_in c → look_up x c.layouts ≡ Some shape → n ≡ (min shape.bits 1024 + 31) / 32 → IsType d.table i (words_ty n) → Checks d b false (Typed i) e (Ok part)
    → Keeps b new → written_in new ≡ written_in b → ((ts : NamedTys) → IsFields b.table shape.types ts → IsType new.table t (RecordTy ts))
    → parts ≡ two_costs part.cost (record { words = 0; size = still (4 * shape.fields); need = 0 })
    → IsJudged new s expected (Some t) None None r → IfOk r (λ f. f.value ≡ Some t) → IsCounted new (Some t) parts r → Checks c new false expected (UnpackTree s x e) r
unpack_checks c d b new expected s x e shape i n t part parts r keeps same known count is h behind also made sum judged same_value counted =
    let one = part_within c d b new part.cost (λ k vars. faults (place k vars false) (unpack_wants x k vars) e) (λ k vars. words_at k vars e) (λ sizes k vars. expanded sizes k vars e) (λ needs k vars. need needs k vars e) (variables e)
    keeps same behind also (one_part d b false (Typed i) e part (unpack_wants x) (unpack_wanted c d x shape i n keeps known count is) h) in
    let there : (k : Known) → Holds c k → IsOutline b x shape k = λ k holds.
    let up = Keeps-trans c d b keeps h.keeps in
    outline_there b x shape k (holds_stays c b k up.declared holds) (ap (look_up x) up.declared.same_layouts ∙ known) in
    node_checks c new false expected (UnpackTree s x e) (Some t) parts None None r
    (record {
      own = own_faults c new false (UnpackTree s x e) part.cost (λ k vars. faults (place k vars false) (unpack_wants x k vars) e) (λ k vars. words_at k vars e) (λ sizes k vars. expanded sizes k vars e) (λ needs k vars. need needs k vars e) (variables e) one (λ k vars v. refl);
      low_is = λ k vars holds sees. layout_known x k.layouts (there k holds).0 (there k holds).1;
      middle_is = λ k vars holds sees. refl;
      valued = λ k vars holds sees.
          let o = there k holds in
          subst (λ (l : Option OutlineTree). IsValue new.table (Some t) (option_map unpacked_ty l)) (sym o.1) (unpacked_so new.table shape o.0 t o.2.shaped.a_record (made (unpacked_all (record_forms o.0)) o.2.shaped.of_types));
      counted = λ k vars sizes needs holds sees counts.
          let o = there k holds in
          moved_costs part.cost parts shape.fields (words_at k vars (UnpackTree s x e)) (words_at k vars e) (expanded sizes k vars e) (need needs k vars e) (length (bit_fields 0 o.0)) (look_up x k.layouts)
          (one.counted k vars sizes needs holds sees counts) o.2.shaped.of_fields (ap field_size o.1) sum;
      keeps = one.keeps;
      writes = one.writes;
    }) judged same_value counted

-- ---- pack
abbrev pack_wants : List ℕ → Known → Vars → ExpectedTree
pack_wants x k vars = expected_unpacked (look_up x k.layouts)

pub pack_other : (c b : Checker) (expected : Expected) (s : Span) (x : List ℕ) (e : Tree) (error : TypeError) → look_up x c.layouts ≡ None → Checks c b false Value e (Err error) → (new : Checker) → Checks c new false expected (PackTree s x e) (Err error)
pack_other c b expected s x e error none h new =
    part_failed c new b false false expected Value (PackTree s x e) e error (pack_wants x) (λ k vars v. node_faults (place k vars false) v (PackTree s x e)) h
    (λ k vars holds sees. ap expected_unpacked (outline_not_there c x k holds none)) (λ k vars v. refl)

pub pack_unknown : (c d : Checker) (expected : Expected) (s : Span) (x : List ℕ) (e : Tree) (part : TypedExpr) → look_up x c.layouts ≡ None → Checks c d false Value e (Ok part) → (new : Checker) → Checks c new false expected (PackTree s x e) (Err (Fault 3 s))
pack_unknown c d expected s x e part none h new =
    let one = one_part c d false Value e part (pack_wants x) (λ k vars holds sees. ap expected_unpacked (outline_not_there c x k holds none)) h in
    own_failed c new false expected (PackTree s x e) 3
    (own_faults c d false (PackTree s x e) part.cost (λ k vars. faults (place k vars false) (pack_wants x k vars) e) (λ k vars. words_at k vars e) (λ sizes k vars. expanded sizes k vars e) (λ needs k vars. need needs k vars e) (variables e) one (λ k vars v. refl))
    (λ k vars v holds sees. low_first (place k vars false) v (PackTree s x e) 3 [] (layout_unknown x k.layouts (outline_not_there c x k holds none)))

-- a value that can be packed by a form
abbrev packs_by : Form → ExpectedTree
packs_by f = record { value = true; right = can_pack f }

pack_wanted : (c : Checker) (x : List ℕ) (shape : Shape) → look_up x c.layouts ≡ Some shape → WantsPart c (Packed shape.forms) (pack_wants x)
pack_wanted c x shape known k vars holds sees =
    let o = outline_there c x shape k holds known in
    (record_forms o.0, o.2.shaped.of_forms, ap expected_unpacked o.1 ∙ ap packs_by o.2.shaped.a_record)

pub pack_failed : (c b : Checker) (expected : Expected) (s : Span) (x : List ℕ) (e : Tree) (shape : Shape) (error : TypeError) → look_up x c.layouts ≡ Some shape
    → Checks c b false (Packed shape.forms) e (Err error) → (new : Checker) → Checks c new false expected (PackTree s x e) (Err error)
pack_failed c b expected s x e shape error known h new =
    part_failed c new b false false expected (Packed shape.forms) (PackTree s x e) e error (pack_wants x) (λ k vars v. node_faults (place k vars false) v (PackTree s x e)) h (pack_wanted c x shape known) (λ k vars v. refl)

pub pack_checks : (c b new : Checker) (expected : Expected) (s : Span) (x : List ℕ) (e : Tree) (shape : Shape) (n t : ℕ) (part : TypedExpr) (parts : Cost) (r : Result TypedExpr TypeError)
    → look_up x c.layouts ≡ Some shape → n ≡ (min shape.bits 1024 + 31) / 32 → Checks c b false (Packed shape.forms) e (Ok part)
    → Keeps b new → written_in new ≡ written_in b → IsType new.table t (words_ty n)
    → parts ≡ two_costs part.cost (record { words = 0; size = still (4 * shape.fields); need = 0 })
    → IsJudged new s expected (Some t) None None r → IfOk r (λ f. f.value ≡ Some t) → IsCounted new (Some t) parts r → Checks c new false expected (PackTree s x e) r
pack_checks c b new expected s x e shape n t part parts r known count h behind also is sum judged same_value counted =
    let one = part_within c c b new part.cost (λ k vars. faults (place k vars false) (pack_wants x k vars) e) (λ k vars. words_at k vars e) (λ sizes k vars. expanded sizes k vars e) (λ needs k vars. need needs k vars e) (variables e)
    (Keeps-refl c) refl behind also (one_part c b false (Packed shape.forms) e part (pack_wants x) (pack_wanted c x shape known) h) in
    let there : (k : Known) → Holds c k → IsOutline c x shape k = λ k holds. outline_there c x shape k holds known in
    node_checks c new false expected (PackTree s x e) (Some t) parts None None r
    (record {
      own = own_faults c new false (PackTree s x e) part.cost (λ k vars. faults (place k vars false) (pack_wants x k vars) e) (λ k vars. words_at k vars e) (λ sizes k vars. expanded sizes k vars e) (λ needs k vars. need needs k vars e) (variables e) one (λ k vars v. refl);
      low_is = λ k vars holds sees. layout_known x k.layouts (there k holds).0 (there k holds).1;
      middle_is = λ k vars holds sees. refl;
      valued = λ k vars holds sees.
          let o = there k holds in
          subst (λ (l : Option OutlineTree). IsValue new.table (Some t) (option_map packed_ty l)) (sym o.1) (packed_so c.table shape o.0 t n o.2 count new.table is);
      counted = λ k vars sizes needs holds sees counts.
          let o = there k holds in
          moved_costs part.cost parts shape.fields (words_at k vars (PackTree s x e)) (words_at k vars e) (expanded sizes k vars e) (need needs k vars e) (length (bit_fields 0 o.0)) (look_up x k.layouts)
          (one.counted k vars sizes needs holds sees counts) o.2.shaped.of_fields (ap field_size o.1) sum;
      keeps = one.keeps;
      writes = one.writes;
    }) judged same_value counted
