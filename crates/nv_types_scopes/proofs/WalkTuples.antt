-- Tuples and records.
use Rattle.std.proofs.Common.{◌≡◌, ◌∙◌, refl, ap, sym, subst, ℕ, ◌+◌, Bool, true, false, List, [], ◌∷◌, ◌++◌, append-nil, Option, None, Some, Result, Ok, Err, unwrap_or}
use Rattle.std.specs.Result.{IfOk, OnOk}
use Rattle.std.specs.Prelude.{option_to_list, option_map}
use Rattle.std.proofs.lemmas.Option.{same_Some, none-some}
use Rattle.nv_ast.specs.declared.token.Span.{Span}
use Rattle.nv_ast.specs.Tree.{Tree, Trees, no_trees, tree_and, NamedTrees, no_named_trees, named_tree_and, TupleTree, FieldsTree}
use Rattle.nv_ast.specs.Scope.{Known, Vars}
use Rattle.nv_ast.specs.Types.{Ty, TupleTy, RecordTy, Tys, no_tys, ty_and, NamedTys, no_named_tys, named_ty_and, total_named_words, words_of_value}
use Rattle.nv_ast.specs.Typing.{type_at, types_at, named_types_at, and_ty, and_named_ty}
use Rattle.nv_ast.specs.Tests.{has_twice, where_true}
use Rattle.nv_ast.specs.Faults.{Expected as ExpectedTree, a_value, faults, list_faults, named_faults, node_faults, member_names, field_twice}
use Rattle.nv_ast.specs.Sizes.{words_at, words_all, expanded_all, need_all, variables_all, words_named, expanded_named, need_named}
use Rattle.nv_types_table.specs.declared.error.TypeError.{TypeError}
use Rattle.nv_types_scopes.specs.declared.expected.Expected.{Expected}
use Rattle.nv_types_scopes.specs.declared.expected.Expected.TheVariants.{Value}
use Rattle.nv_types_table.specs.declared.cost.Cost.{Cost}
use Rattle.nv_types_scopes.specs.declared.functions.Checker.{Checker}
use Rattle.nv_types_scopes.specs.declared.functions.TypedExpr.{TypedExpr}
use Rattle.nv_types_table.specs.inner.Faulty.{IsFirstOf, Judges, first}
use Rattle.nv_types_table.specs.inner.Store.{Store, IsType, IsValue, AreTypes, AreFields, field_names}
use Rattle.nv_types_table.specs.inner.Cells.{still}
use Rattle.nv_types_table.specs.inner.Costs.{IsCost, node_cost}
use Rattle.nv_types_scopes.specs.inner.Judging.{IsExpected, judged_faults}
use Rattle.nv_types_scopes.specs.inner.Standing.{Holds, Sees, Keeps, place, written_in}
use Rattle.nv_types_scopes.specs.inner.Walk.{Checks}
use Rattle.nv_types_table.proofs.Firsts.{first_append}
use Rattle.nv_types_table.proofs.Staying.{types_stay, named_stay}
use Rattle.nv_types_scopes.proofs.Holding.{Keeps-refl, Keeps-trans, holds_stays, sees_stay, wanted_stays}
use Rattle.nv_types_scopes.proofs.WalkCosts.{node_costs}
use Rattle.nv_types_scopes.proofs.WalkNodes.{part_within, failed, parts_stand, judged_by, node_checks}
use Rattle.nv_types_scopes.proofs.WalkValues.{has_value}
use Rattle.nv_types_scopes.proofs.WalkArms.{IsJudged, IsCounted}
use Rattle.nv_types_scopes.proofs.WalkLists.{AllSo, next_value, all_first, all_end, all_parts, unnamed, unnamed_faults, unnamed_words, unnamed_expanded, unnamed_need, unnamed_variables}

-- the number of a type that is there
pub number_there : (s : Store) (o : Option ℕ) (u : Option Ty) (t : Ty) → IsValue s o u → u ≡ Some t → IsType s (unwrap_or o 0) t
number_there s (Some i) (Some v) t h e = subst (λ (x : Ty). IsType s i x) (same_Some v t e) h
number_there s None None t h e = absurd (none-some t e)
number_there s None (Some v) t h e = absurd h
number_there s (Some i) None t h e = absurd h

-- ---- tuples: types and then those that are left
abbrev pub types_behind : Tys → Option Tys → Option Tys
types_behind no_tys o = o
types_behind (ty_and t ts) o = and_ty (Some t) (types_behind ts o)

abbrev pub with_last : Tys → Ty → Tys
with_last no_tys u = ty_and u no_tys
with_last (ty_and t ts) u = ty_and t (with_last ts u)

last_behind : (ts : Tys) (u : Ty) (o : Option Tys) → types_behind ts (and_ty (Some u) o) ≡ types_behind (with_last ts u) o
last_behind no_tys u o = refl
last_behind (ty_and t ts) u o = ap (and_ty (Some t)) (last_behind ts u o)

all_behind : (ts : Tys) → types_behind ts (Some no_tys) ≡ Some ts
all_behind no_tys = refl
all_behind (ty_and t ts) = ap (and_ty (Some t)) (all_behind ts)

one_more_type : (s : Store) (is : List ℕ) (i : ℕ) (ts : Tys) (t : Ty) → AreTypes s is ts → IsType s i t → AreTypes s (is ++ i ∷ []) (with_last ts t)
one_more_type s [] i no_tys t h k = (k, tt)
one_more_type s (j ∷ is) i (ty_and u ts) t h k = (h.0, one_more_type s is i ts t h.1 k)
one_more_type s [] i (ty_and u ts) t h k = absurd h
one_more_type s (j ∷ is) i no_tys t h k = absurd h

abbrev pub TypesSo : Checker → Checker → List ℕ → Trees → Trees → Type 0
TypesSo c new items all rest = (k : Known) (vars : Vars) → Holds c k → Sees c vars → (ts : Tys) × AreTypes new.table items ts × (types_at k vars all ≡ types_behind ts (types_at k vars rest))

pub types_start : (c : Checker) (all : Trees) → TypesSo c c [] all all
types_start c all k vars holds sees = (no_tys, tt, refl)

-- the type of a part of which a value is wanted
pub part_type : (b new : Checker) (e : Tree) (found : TypedExpr) → Checks b new false Value e (Ok found) → (k : Known) (vars : Vars) → Holds b k → Sees b vars → (t : Ty) × (type_at k vars e ≡ Some t) × IsType new.table (unwrap_or found.value 0) t
part_type b new e found checks k vars holds sees =
    let u = has_value (place k vars false) a_value e refl (checks.judged k vars a_value holds sees refl) in
    (u.0, u.1, number_there new.table found.value (type_at k vars e) u.0 (checks.typed k vars holds sees) u.1)

pub types_more : (c b new : Checker) (is more : List ℕ) (i : ℕ) (all rest : Trees) (e : Tree) (found : TypedExpr) → TypesSo c b is all (tree_and e rest) → Keeps c b → Checks b new false Value e (Ok found) → i ≡ unwrap_or found.value 0 → more ≡ is ++ i ∷ [] → TypesSo c new more all rest
types_more c b new is more i all rest e found so keeps checks number adds k vars holds sees =
    let q = so k vars holds sees in
    let u = part_type b new e found checks k vars (holds_stays c b k keeps.declared holds) (sees_stay c b vars keeps sees) in (
      with_last q.0 u.0,
      subst (λ (l : List ℕ). AreTypes new.table l (with_last q.0 u.0)) (sym adds) (one_more_type new.table is i q.0 u.0 (types_stay b.table new.table checks.keeps.declared.grows is q.0 q.1) (subst (λ j. IsType new.table j u.0) (sym number) u.2)),
      q.2 ∙ ap (λ (o : Option Ty). types_behind q.0 (and_ty o (types_at k vars rest))) u.1 ∙ last_behind q.0 u.0 (types_at k vars rest),
    )

pub types_end : (c new : Checker) (is : List ℕ) (all : Trees) → TypesSo c new is all no_trees → (k : Known) (vars : Vars) → Holds c k → Sees c vars → (ts : Tys) × AreTypes new.table is ts × (types_at k vars all ≡ Some ts)
types_end c new is all so k vars holds sees = let q = so k vars holds sees in (q.0, q.1, q.2 ∙ all_behind q.0)

pub tuple_failed : (c b d : Checker) (expected : Expected) (s : Span) (all rest : Trees) (e : Tree) (cost : Cost) (error : TypeError) → AllSo c b None None all (tree_and e rest) cost → Checks b d false Value e (Err error) → (new : Checker) → Checks c new false expected (TupleTree s all) (Err error)
tuple_failed c b d expected s all rest e cost error so checks new = failed c new false expected (TupleTree s all) error (λ k vars w holds sees is.
    first_append (list_faults (place k vars false) [] all) (node_faults (place k vars false) w (TupleTree s all)) error (all_first c b d None None None Value all rest e cost error so (next_value b.table) checks k vars [] holds sees refl))

pub tuple_checks : (c b new : Checker) (expected : Expected) (s : Span) (all : Trees) (is : List ℕ) (list t : ℕ) (cost : Cost) (r : Result TypedExpr TypeError)
    → AllSo c b None None all no_trees cost → TypesSo c b is all no_trees → Keeps b new → written_in new ≡ written_in b
    → ((ts : Tys) → AreTypes b.table is ts → IsType new.table t (TupleTy ts))
    → IsJudged new s expected (Some t) None None r → IfOk r (λ f. f.value ≡ Some t) → IsCounted new (Some t) cost r → Checks c new false expected (TupleTree s all) r
tuple_checks c b new expected s all is list t cost r so types keeps same made judged same_value counted =
    let parts = part_within c c b new cost (λ k vars. list_faults (place k vars false) [] all) (λ k vars. words_all k vars all) (λ sizes k vars. expanded_all sizes k vars all) (λ needs k vars. need_all needs k vars all) (variables_all all)
    (Keeps-refl c) refl keeps same (all_parts c b None all cost (λ k vars. []) (λ k vars holds sees. refl) (all_end c b None None all cost so)) in
    node_checks c new false expected (TupleTree s all) (Some t) cost None None r
    (parts_stand c new false (TupleTree s all) (Some t) cost cost None None (λ k vars. list_faults (place k vars false) [] all) (λ k vars. words_all k vars all) (λ sizes k vars. expanded_all sizes k vars all) (λ needs k vars. need_all needs k vars all) (variables_all all)
    parts refl (λ k vars v. refl) refl (λ sizes k vars. refl) (λ needs k vars. refl) (λ k vars holds sees. refl) (λ k vars holds sees. refl)
    (λ k vars holds sees. let q = types_end c b is all types k vars holds sees in subst (λ (o : Option Tys). IsValue new.table (Some t) (option_map TupleTy o)) (sym q.2) (made q.0 q.1))) judged same_value counted

-- ---- records
abbrev pub fields_behind : NamedTys → Option NamedTys → Option NamedTys
fields_behind no_named_tys o = o
fields_behind (named_ty_and x t ts) o = and_named_ty x (Some t) (fields_behind ts o)

abbrev pub with_last_field : NamedTys → List ℕ → Ty → NamedTys
with_last_field no_named_tys y u = named_ty_and y u no_named_tys
with_last_field (named_ty_and x t ts) y u = named_ty_and x t (with_last_field ts y u)

last_field_behind : (ts : NamedTys) (y : List ℕ) (u : Ty) (o : Option NamedTys) → fields_behind ts (and_named_ty y (Some u) o) ≡ fields_behind (with_last_field ts y u) o
last_field_behind no_named_tys y u o = refl
last_field_behind (named_ty_and x t ts) y u o = ap (and_named_ty x (Some t)) (last_field_behind ts y u o)

all_fields_behind : (ts : NamedTys) → fields_behind ts (Some no_named_tys) ≡ Some ts
all_fields_behind no_named_tys = refl
all_fields_behind (named_ty_and x t ts) = ap (and_named_ty x (Some t)) (all_fields_behind ts)

one_more_field : (s : Store) (is : List (List ℕ × ℕ)) (y : List ℕ) (i : ℕ) (ts : NamedTys) (t : Ty) → AreFields s is ts → IsType s i t → AreFields s (is ++ (y, i) ∷ []) (with_last_field ts y t)
one_more_field s [] y i no_named_tys t h k = (refl, k, tt)
one_more_field s (j ∷ is) y i (named_ty_and x u ts) t h k = (h.0, h.1, one_more_field s is y i ts t h.2 k)
one_more_field s [] y i (named_ty_and x u ts) t h k = absurd h
one_more_field s (j ∷ is) y i no_named_tys t h k = absurd h

last_name : (ts : NamedTys) (y : List ℕ) (t : Ty) (more : List (List ℕ)) → field_names ts ++ (y ∷ more) ≡ field_names (with_last_field ts y t) ++ more
last_name no_named_tys y t more = refl
last_name (named_ty_and x u ts) y t more = ap (λ l. x ∷ l) (last_name ts y t more)

abbrev pub FieldsSo : Checker → Checker → List (List ℕ × ℕ) → NamedTrees → NamedTrees → Type 0
FieldsSo c new items all rest = (k : Known) (vars : Vars) → Holds c k → Sees c vars
    → (ts : NamedTys) × AreFields new.table items ts × (named_types_at k vars all ≡ fields_behind ts (named_types_at k vars rest)) × (member_names all ≡ field_names ts ++ member_names rest)

pub fields_begin : (c : Checker) (all : NamedTrees) → FieldsSo c c [] all all
fields_begin c all k vars holds sees = (no_named_tys, tt, refl, refl)

pub fields_more : (c b new : Checker) (is more : List (List ℕ × ℕ)) (y : List ℕ) (i : ℕ) (all rest : NamedTrees) (e : Tree) (found : TypedExpr) → FieldsSo c b is all (named_tree_and y e rest) → Keeps c b → Checks b new false Value e (Ok found) → i ≡ unwrap_or found.value 0 → more ≡ is ++ (y, i) ∷ [] → FieldsSo c new more all rest
fields_more c b new is more y i all rest e found so keeps checks number adds k vars holds sees =
    let q = so k vars holds sees in
    let u = part_type b new e found checks k vars (holds_stays c b k keeps.declared holds) (sees_stay c b vars keeps sees) in (
      with_last_field q.0 y u.0,
      subst (λ (l : List (List ℕ × ℕ)). AreFields new.table l (with_last_field q.0 y u.0)) (sym adds) (one_more_field new.table is y i q.0 u.0 (named_stay b.table new.table checks.keeps.declared.grows is q.0 q.1) (subst (λ j. IsType new.table j u.0) (sym number) u.2)),
      q.2 ∙ ap (λ (o : Option Ty). fields_behind q.0 (and_named_ty y o (named_types_at k vars rest))) u.1 ∙ last_field_behind q.0 y u.0 (named_types_at k vars rest),
      q.3 ∙ last_name q.0 y u.0 (member_names rest),
    )

pub fields_finish : (c new : Checker) (is : List (List ℕ × ℕ)) (all : NamedTrees) → FieldsSo c new is all no_named_trees → (k : Known) (vars : Vars) → Holds c k → Sees c vars → (ts : NamedTys) × AreFields new.table is ts × (named_types_at k vars all ≡ Some ts) × (member_names all ≡ field_names ts)
fields_finish c new is all so k vars holds sees = let q = so k vars holds sees in (q.0, q.1, q.2 ∙ all_fields_behind q.0, q.3 ∙ append-nil (field_names q.0))

pub fields_failed : (c b d : Checker) (expected : Expected) (s : Span) (all : NamedTrees) (rest : Trees) (e : Tree) (cost : Cost) (error : TypeError) → AllSo c b None None (unnamed all) (tree_and e rest) cost → Checks b d false Value e (Err error) → (new : Checker) → Checks c new false expected (FieldsTree s all) (Err error)
fields_failed c b d expected s all rest e cost error so checks new = failed c new false expected (FieldsTree s all) error (λ k vars w holds sees is.
    first_append (named_faults (place k vars false) all) (node_faults (place k vars false) w (FieldsTree s all)) error
    (subst (λ l. IsFirstOf l error) (sym (unnamed_faults (place k vars false) all)) (all_first c b d None None None Value (unnamed all) rest e cost error so (next_value b.table) checks k vars [] holds sees refl)))

-- what is first twice is there
first_twice : (b : Bool) → where_true {A = ℕ} b 18 ≡ option_to_list (first (where_true {A = ℕ} b 18))
first_twice true = refl
first_twice false = refl

abbrev pub MadeJudged : Checker → Span → Expected → List (List ℕ × ℕ) → Result TypedExpr TypeError → Type 0
MadeJudged b s expected is r = (w : ExpectedTree) (ts : NamedTys) → IsExpected b.table expected w → AreFields b.table is ts → Judges (judged_faults s w (Some (RecordTy ts)) None (first (field_twice (field_names ts)))) r

record_judged : (c b new : Checker) (expected : Expected) (s : Span) (all : NamedTrees) (is : List (List ℕ × ℕ)) (cost : Cost) (r : Result TypedExpr TypeError)
    → AllSo c b None None (unnamed all) no_trees cost → FieldsSo c b is all no_named_trees → MadeJudged b s expected is r
    → (k : Known) (vars : Vars) (w : ExpectedTree) → Holds c k → Sees c vars → IsExpected c.table expected w → Judges (faults (place k vars false) w (FieldsTree s all)) r
record_judged c b new expected s all is cost r so fields judged k vars w holds sees wants =
    let q = fields_finish c b is all fields k vars holds sees in
    let clean = unnamed_faults (place k vars false) all ∙ (all_end c b None None (unnamed all) cost so).judged k vars [] holds sees refl in
    let e = FieldsTree s all in
    let own = judged_by (place k vars false) w e None (first (field_twice (member_names all))) refl (first_twice (has_twice (member_names all))) in
    let typed : judged_faults s w (type_at k vars e) None (first (field_twice (member_names all))) ≡ judged_faults s w (Some (RecordTy q.0)) None (first (field_twice (field_names q.0))) =
    ap (λ (t : Option NamedTys). judged_faults s w (option_map RecordTy t) None (first (field_twice (member_names all)))) q.2
    ∙ ap (λ (names : List (List ℕ)). judged_faults s w (Some (RecordTy q.0)) None (first (field_twice names))) q.3 in
    subst (λ l. Judges l r) (sym (ap (λ l. l ++ node_faults (place k vars false) w e) clean ∙ own ∙ typed)) (judged w q.0 (wanted_stays c.table b.table so.keeps.declared.grows expected w wants) q.1)

record_costs : (found cost : Cost) (v ve w s wn sn n nn : ℕ) → IsCost cost w s n → found ≡ node_cost (still v) cost → ve ≡ v → wn ≡ w → sn ≡ s → nn ≡ n → IsCost found ve ((1 + ve) + sn) ((2 + ve) + (wn + nn))
record_costs found cost v ve w s wn sn n nn h is ev ew es en =
    let at = node_costs cost v w s n h in
    record {
      of_words = ap (λ (x : Cost). x.words) is ∙ at.of_words ∙ ap still (sym ev);
      of_size = ap (λ (x : Cost). x.size) is ∙ at.of_size ∙ ap still (ap (λ m. (1 + m) + s) (sym ev) ∙ ap (λ m. (1 + ve) + m) (sym es));
      of_need = ap (λ (x : Cost). x.need) is ∙ at.of_need ∙ ap still (ap (λ m. (2 + m) + (w + n)) (sym ev) ∙ ap (λ m. (2 + ve) + (m + n)) (sym ew) ∙ ap (λ m. (2 + ve) + (wn + m)) (sym en));
    }

pub fields_checks : (c b new : Checker) (expected : Expected) (s : Span) (all : NamedTrees) (is : List (List ℕ × ℕ)) (cost : Cost) (r : Result TypedExpr TypeError)
    → AllSo c b None None (unnamed all) no_trees cost → FieldsSo c b is all no_named_trees → MadeJudged b s expected is r
    → ((ts : NamedTys) → AreFields b.table is ts → IfOk r (λ f. IsValue new.table f.value (Some (RecordTy ts))))
    → ((ts : NamedTys) → AreFields b.table is ts → IfOk r (λ f. f.cost ≡ node_cost (still (total_named_words ts)) cost))
    → OnOk r (Keeps b new) → OnOk r (written_in new ≡ written_in b) → Checks c new false expected (FieldsTree s all) r
fields_checks c b new expected s all is cost (Err error) so fields judged typed counted keeps same = failed c new false expected (FieldsTree s all) error (record_judged c b new expected s all is cost (Err error) so fields judged)
fields_checks c b new expected s all is cost (Ok found) so fields judged typed counted keeps same =
    let done_ = all_end c b None None (unnamed all) cost so in
    record {
      judged = record_judged c b new expected s all is cost (Ok found) so fields judged;
      typed = λ k vars holds sees.
          let q = fields_finish c b is all fields k vars holds sees in
          subst (λ (t : Option NamedTys). IsValue new.table found.value (option_map RecordTy t)) (sym q.2) (typed q.0 q.1);
      counted = λ k vars sizes needs holds sees counts.
          let q = fields_finish c b is all fields k vars holds sees in
          record_costs found.cost cost (total_named_words q.0) (words_at k vars (FieldsTree s all)) (words_all k vars (unnamed all)) (expanded_all sizes k vars (unnamed all))
          (words_named k vars all) (expanded_named sizes k vars all) (need_all needs k vars (unnamed all)) (need_named needs k vars all)
          (done_.counted k vars sizes needs holds sees counts) (counted q.0 q.1) (ap (λ (t : Option NamedTys). words_of_value (option_map RecordTy t)) q.2)
          (unnamed_words k vars all) (unnamed_expanded sizes k vars all) (unnamed_need needs k vars all);
      keeps = Keeps-trans c b new so.keeps keeps;
      writes = same ∙ done_.writes ∙ ap (λ l. written_in c ++ l) (sym (unnamed_variables all));
    }
