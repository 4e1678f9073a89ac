-- Calls of functions, and exceptions that are raised.
use Rattle.std.proofs.Common.{◌≡◌, ◌∙◌, refl, ap, sym, subst, ℕ, suc, ◌+◌, add-one, ◌==◌, eqb, max, Bool, true, false, not, ◌&&◌, cond, List, [], ◌∷◌, ◌++◌, append-nil, append_assoc, length, Option, None, Some, is_none, is_some, Result, Ok, Err, arith}
use Rattle.std.specs.Result.{IfOk}
use Rattle.std.specs.Prelude.{option_map}
use Rattle.std.proofs.lemmas.Bool.{ne_eqb}
use Rattle.nv_ast.specs.declared.token.Span.{Span}
use Rattle.nv_ast.specs.declared.tree.Expr.{Expr}
use Rattle.nv_ast.specs.ExprView.{list_trees}
use Rattle.nv_ast.specs.Tree.{Tree, Trees, CallTree, RaiseTree, span_of}
use Rattle.nv_ast.specs.Scope.{Signature, Known, callable, Vars, Context, plain_tys}
use Rattle.nv_ast.specs.Types.{Tys, no_tys, ty_and}
use Rattle.nv_ast.specs.Typing.{type_at}
use Rattle.nv_ast.specs.Tests.{look_up, where_true, is_among, names_of, value_at}
use Rattle.nv_ast.specs.Faults.{Expected as ExpectedTree, at_span, faults, list_faults, node_faults, low_kinds, middle_kinds, other_type, no_value, too_large_value, as_many, all_wanted, expected_arguments, params_of, not_in_tail, wrong_number}
use Rattle.nv_ast.specs.Sizes.{words_all, expanded_all, need_all, variables_all}
use Rattle.nv_ast.proofs.Faultless.{no_kinds}
use Rattle.nv_types_table.specs.declared.error.TypeError.{TypeError}
use Rattle.nv_types_table.specs.declared.error.TypeError.TheVariants.{Fault}
use Rattle.nv_types_scopes.specs.declared.expected.Expected.{Expected}
use Rattle.nv_types_table.specs.declared.cost.Cost.{Cost}
use Rattle.nv_types_scopes.specs.declared.functions.Checker.{Checker}
use Rattle.nv_types_scopes.specs.declared.functions.Function.{Function}
use Rattle.nv_types_scopes.specs.declared.functions.TypedExpr.{TypedExpr}
use Rattle.nv_types_table.specs.inner.Faulty.{IsFirstOf}
use Rattle.nv_types_table.specs.inner.Store.{Store, IsParts, IsValue, count_tys}
use Rattle.nv_types_table.specs.inner.Costs.{two_costs, cost_of_call}
use Rattle.nv_types_scopes.specs.inner.Judging.{AreExpected}
use Rattle.nv_types_scopes.specs.inner.Standing.{IsFunction, Holds, Sees, Keeps, place}
use Rattle.nv_types_scopes.specs.inner.Walk.{Checks, ChecksAll}
use Rattle.nv_types_table.proofs.Firsts.{first_append, at_span-append}
use Rattle.nv_types_table.proofs.Staying.{type_stays}
use Rattle.nv_types_table.proofs.RowEdges.{both_more}
use Rattle.nv_types_scopes.proofs.Alikes.{alike_at, both_none, both_found}
use Rattle.nv_types_scopes.proofs.WalkCosts.{parts_and_call, size_called, need_called, no_words_called}
use Rattle.nv_types_scopes.proofs.WalkNodes.{Parts, failed, parts_stand, node_checks}
use Rattle.nv_types_scopes.proofs.WalkArms.{IsJudged, IsCounted}
use Rattle.nv_types_scopes.proofs.WalkNamed.{low_first, middle_first, own_failed}
use Rattle.nv_types_scopes.proofs.WalkLists.{all_parts}

pub as_many_counted : (ts : Tys) (es : List Expr) → as_many ts (list_trees es) ≡ eqb (count_tys ts) (length es)
as_many_counted no_tys [] = refl
as_many_counted (ty_and t ts) (e ∷ es) = as_many_counted ts es ∙ sym (both_more (count_tys ts) (length es)) ∙ ap (λ k. eqb (count_tys ts + 1) k) (add-one (length es))
as_many_counted no_tys (e ∷ es) = sym (ne_eqb 0 (suc (length es)) (λ q. omega (arith, q)))
as_many_counted (ty_and t ts) [] = sym (ne_eqb (count_tys ts + 1) 0 (λ q. omega (arith, q)))

-- the list of types where there are as many of them
abbrev pub IsMany : Store → ℕ → ℕ → Option ℕ → Type 0
IsMany s list n types = (ts : Tys) → IsParts s list ts → types ≡ cond (count_tys ts == n) (Some list) None

many_wanted : (s : Store) (list : ℕ) (ts : Tys) (b : Bool) → IsParts s list ts → AreExpected s (cond b (Some list) None) (cond b (all_wanted ts) [])
many_wanted s list ts true h = (ts, h, refl)
many_wanted s list ts false h = refl

arguments_wanted : (s : Store) (list : ℕ) (types : Option ℕ) (ts : Tys) (es : List Expr) → IsMany s list (length es) types → IsParts s list ts → AreExpected s types (expected_arguments (Some ts) (list_trees es))
arguments_wanted s list types ts es many h =
    subst (λ (o : Option ℕ). AreExpected s o (expected_arguments (Some ts) (list_trees es))) (sym (many ts h ∙ ap (λ (b : Bool). cond b (Some list) None) (sym (as_many_counted ts es)))) (many_wanted s list ts (as_many ts (list_trees es)) h)

none_many : (b : Bool) (list : ℕ) → is_none (cond b (Some list) None) ≡ not b
none_many true list = refl
none_many false list = refl

number_test : (s : Store) (list : ℕ) (types : Option ℕ) (ts : Tys) (es : List Expr) → IsMany s list (length es) types → IsParts s list ts → wrong_number (Some ts) (list_trees es) ≡ where_true {A = ℕ} (is_none types) 13
number_test s list types ts es many h =
    ap (λ (b : Bool). where_true {A = ℕ} b 13) (sym (none_many (as_many ts (list_trees es)) list) ∙ ap is_none (sym (many ts h ∙ ap (λ (b : Bool). cond b (Some list) None) (sym (as_many_counted ts es)))))

-- a node of which some of its own kinds below 14 are the first
low_failed : (p : Context) (w : ExpectedTree) (e : Tree) (kinds later : List ℕ) (error : TypeError) → low_kinds p e ≡ kinds ++ later → IsFirstOf (at_span (span_of e) kinds) error → IsFirstOf (node_faults p w e) error
low_failed p w e kinds later error is h =
    let t = type_at p.known p.vars e in
    let rest = other_type w t ++ (middle_kinds p e ++ (no_value w t ++ too_large_value t)) in
    subst (λ l. IsFirstOf l error)
    (sym (ap (λ (xs : List ℕ). at_span (span_of e) (xs ++ rest)) is ∙ ap (at_span (span_of e)) (append_assoc kinds later rest) ∙ at_span-append (span_of e) kinds (later ++ rest)))
    (first_append (at_span (span_of e) kinds) (at_span (span_of e) (later ++ rest)) error h)

-- an argument has the first fault
pub arguments_failed : (c b : Checker) (tail : Bool) (expected : Expected) (e : Tree) (es : Trees) (types : Option ℕ) (ws : Known → Vars → List ExpectedTree) (error : TypeError)
    → ((k : Known) (vars : Vars) → Holds c k → Sees c vars → AreExpected c.table types (ws k vars)) → ChecksAll c b types es (Err error)
    → ((k : Known) (vars : Vars) (v : ExpectedTree) → faults (place k vars tail) v e ≡ list_faults (place k vars false) (ws k vars) es ++ node_faults (place k vars tail) v e)
    → (new : Checker) → Checks c new tail expected e (Err error)
arguments_failed c b tail expected e es types ws error wants h shape new = failed c new tail expected e error (λ k vars v holds sees is.
    subst (λ l. IsFirstOf l error) (sym (shape k vars v))
    (first_append (list_faults (place k vars false) (ws k vars) es) (node_faults (place k vars tail) v e) error (h.judged k vars (ws k vars) holds sees (wants k vars holds sees))))

-- the faults of a node behind clean arguments
arguments_clean : (c d : Checker) (tail : Bool) (e : Tree) (es : Trees) (types : Option ℕ) (ws : Known → Vars → List ExpectedTree) (cost : Cost)
    → ((k : Known) (vars : Vars) → Holds c k → Sees c vars → AreExpected c.table types (ws k vars)) → ChecksAll c d types es (Ok cost)
    → ((k : Known) (vars : Vars) (v : ExpectedTree) → faults (place k vars tail) v e ≡ list_faults (place k vars false) (ws k vars) es ++ node_faults (place k vars tail) v e)
    → (k : Known) (vars : Vars) (v : ExpectedTree) → Holds c k → Sees c vars → faults (place k vars tail) v e ≡ node_faults (place k vars tail) v e
arguments_clean c d tail e es types ws cost wants h shape k vars v holds sees =
    shape k vars v ∙ ap (λ l. l ++ node_faults (place k vars tail) v e) (h.judged k vars (ws k vars) holds sees (wants k vars holds sees))

-- some of a node's own kinds below 14 are its first faults
arguments_low : (c d : Checker) (tail : Bool) (expected : Expected) (e : Tree) (es : Trees) (types : Option ℕ) (ws : Known → Vars → List ExpectedTree) (cost : Cost) (kinds later : List ℕ) (error : TypeError)
    → ((k : Known) (vars : Vars) → Holds c k → Sees c vars → AreExpected c.table types (ws k vars)) → ChecksAll c d types es (Ok cost)
    → ((k : Known) (vars : Vars) (v : ExpectedTree) → faults (place k vars tail) v e ≡ list_faults (place k vars false) (ws k vars) es ++ node_faults (place k vars tail) v e)
    → ((k : Known) (vars : Vars) → Holds c k → Sees c vars → low_kinds (place k vars tail) e ≡ kinds ++ later) → IsFirstOf (at_span (span_of e) kinds) error
    → (new : Checker) → Checks c new tail expected e (Err error)
arguments_low c d tail expected e es types ws cost kinds later error wants h shape low first new = failed c new tail expected e error (λ k vars v holds sees is.
    subst (λ l. IsFirstOf l error) (sym (arguments_clean c d tail e es types ws cost wants h shape k vars v holds sees))
    (low_failed (place k vars tail) v e kinds later error (low k vars holds sees) first))

-- ---- an unknown function
function_not_there : (c : Checker) (f : List ℕ) (k : Known) → Holds c k → look_up f c.functions ≡ None → look_up f (callable k) ≡ None
function_not_there c f k holds e = both_none (IsFunction c.table) (look_up f c.functions) (look_up f (callable k)) (alike_at (IsFunction c.table) c.functions (callable k) holds.of_functions f) e

abbrev params_in : Option Signature → Option Tys
params_in o = option_map (λ g. plain_tys g.params) o

values_called : (c : Checker) (f : List ℕ) (es : Trees) → look_up f c.functions ≡ None → (k : Known) (vars : Vars) → Holds c k → Sees c vars → AreExpected c.table None (expected_arguments (params_of k f) es)
values_called c f es none k vars holds sees = ap (λ (o : Option Signature). expected_arguments (params_in o) es) (function_not_there c f k holds none)

pub call_other : (c b : Checker) (tail : Bool) (expected : Expected) (s : Span) (f : List ℕ) (es : Trees) (error : TypeError) → look_up f c.functions ≡ None → ChecksAll c b None es (Err error) → (new : Checker) → Checks c new tail expected (CallTree s f es) (Err error)
call_other c b tail expected s f es error none h = arguments_failed c b tail expected (CallTree s f es) es None (λ k vars. expected_arguments (params_of k f) es) error (values_called c f es none) h (λ k vars v. refl)

pub call_unknown : (c d : Checker) (tail : Bool) (expected : Expected) (s : Span) (f : List ℕ) (es : Trees) (cost : Cost) → look_up f c.functions ≡ None → ChecksAll c d None es (Ok cost) → (new : Checker) → Checks c new tail expected (CallTree s f es) (Err (Fault 11 s))
call_unknown c d tail expected s f es cost none h new =
    own_failed c new tail expected (CallTree s f es) 11
    (arguments_clean c d tail (CallTree s f es) es None (λ k vars. expected_arguments (params_of k f) es) cost (values_called c f es none) h (λ k vars v. refl))
    (λ k vars v holds sees. low_first (place k vars tail) v (CallTree s f es) 11 (not_in_tail (place k vars tail) f ++ wrong_number (params_of k f) es)
    (ap (λ (o : Option Signature). where_true {A = ℕ} (is_none o) 11 ++ (not_in_tail (place k vars tail) f ++ wrong_number (params_of k f) es)) (function_not_there c f k holds none)))

-- ---- a function that is there
abbrev IsSignature : Checker → List ℕ → Function → Known → Type 0
IsSignature c f fn k = (g : Signature) × (look_up f (callable k) ≡ Some g) × IsFunction c.table fn g

function_there : (c : Checker) (f : List ℕ) (fn : Function) (k : Known) → Holds c k → look_up f c.functions ≡ Some fn → IsSignature c f fn k
function_there c f fn k holds e = both_found (IsFunction c.table) (look_up f c.functions) (look_up f (callable k)) fn (alike_at (IsFunction c.table) c.functions (callable k) holds.of_functions f) e

types_called : (c : Checker) (f : List ℕ) (es : List Expr) (fn : Function) (types : Option ℕ) → look_up f c.functions ≡ Some fn → IsMany c.table fn.params (length es) types
    → (k : Known) (vars : Vars) → Holds c k → Sees c vars → AreExpected c.table types (expected_arguments (params_of k f) (list_trees es))
types_called c f es fn types known many k vars holds sees =
    let g = function_there c f fn k holds known in
    subst (λ (o : Option Signature). AreExpected c.table types (expected_arguments (params_in o) (list_trees es))) (sym g.1) (arguments_wanted c.table fn.params types (plain_tys g.0.params) es many g.2.of_params)

pub call_failed : (c b : Checker) (tail : Bool) (expected : Expected) (s : Span) (f : List ℕ) (es : List Expr) (fn : Function) (types : Option ℕ) (error : TypeError) → look_up f c.functions ≡ Some fn → IsMany c.table fn.params (length es) types
    → ChecksAll c b types (list_trees es) (Err error) → (new : Checker) → Checks c new tail expected (CallTree s f (list_trees es)) (Err error)
call_failed c b tail expected s f es fn types error known many h =
    arguments_failed c b tail expected (CallTree s f (list_trees es)) (list_trees es) types (λ k vars. expected_arguments (params_of k f) (list_trees es)) error (types_called c f es fn types known many) h (λ k vars v. refl)

call_low : (c d : Checker) (tail : Bool) (s : Span) (f : List ℕ) (es : List Expr) (fn : Function) (types : Option ℕ) (behind : Option Cost) → look_up f c.functions ≡ Some fn → IsMany c.table fn.params (length es) types → Keeps c d → behind ≡ look_up f d.costs
    → (k : Known) (vars : Vars) → Holds c k → Sees c vars → low_kinds (place k vars tail) (CallTree s f (list_trees es)) ≡ where_true {A = ℕ} (is_none behind && not tail) 12 ++ where_true {A = ℕ} (is_none types) 13
call_low c d tail s f es fn types behind known many keeps at k vars holds sees =
    let g = function_there c f fn k holds known in
    let own : is_among f (names_of k.own) ≡ is_none behind =
    holds.of_own f ∙ ap (λ (o : Option Function). is_some o && is_none (look_up f c.costs)) known
    ∙ ap (λ (l : List (List ℕ × Cost)). is_none (look_up f l)) (sym keeps.declared.same_costs) ∙ ap is_none (sym at) in
    ap (λ (o : Option Signature). where_true {A = ℕ} (is_none o) 11 ++ (not_in_tail (place k vars tail) f ++ wrong_number (params_in o) (list_trees es))) g.1
    ∙ ap (λ (b : Bool). where_true {A = ℕ} (b && not tail) 12 ++ wrong_number (Some (plain_tys g.0.params)) (list_trees es)) own
    ∙ ap (λ (l : List ℕ). where_true {A = ℕ} (is_none behind && not tail) 12 ++ l) (number_test c.table fn.params types (plain_tys g.0.params) es many g.2.of_params)

-- outside tail position
pub call_outside : (c d : Checker) (tail : Bool) (expected : Expected) (s : Span) (f : List ℕ) (es : List Expr) (fn : Function) (types : Option ℕ) (behind : Option Cost) (cost : Cost) (error : TypeError)
    → look_up f c.functions ≡ Some fn → IsMany c.table fn.params (length es) types → ChecksAll c d types (list_trees es) (Ok cost) → behind ≡ look_up f d.costs
    → IsFirstOf (at_span s (where_true {A = ℕ} (is_none behind && not tail) 12)) error → (new : Checker) → Checks c new tail expected (CallTree s f (list_trees es)) (Err error)
call_outside c d tail expected s f es fn types behind cost error known many h at first =
    arguments_low c d tail expected (CallTree s f (list_trees es)) (list_trees es) types (λ k vars. expected_arguments (params_of k f) (list_trees es)) cost (where_true {A = ℕ} (is_none behind && not tail) 12) (where_true {A = ℕ} (is_none types) 13) error
    (types_called c f es fn types known many) h (λ k vars v. refl) (call_low c d tail s f es fn types behind known many h.keeps at) first

-- a wrong number of arguments
pub call_number : (c d : Checker) (tail : Bool) (expected : Expected) (s : Span) (f : List ℕ) (es : List Expr) (fn : Function) (types : Option ℕ) (behind : Option Cost) (cost : Cost) (error : TypeError)
    → look_up f c.functions ≡ Some fn → IsMany c.table fn.params (length es) types → ChecksAll c d types (list_trees es) (Ok cost) → behind ≡ look_up f d.costs
    → at_span s (where_true {A = ℕ} (is_none behind && not tail) 12) ≡ [] → IsFirstOf (at_span s (where_true {A = ℕ} (is_none types) 13)) error → (new : Checker) → Checks c new tail expected (CallTree s f (list_trees es)) (Err error)
call_number c d tail expected s f es fn types behind cost error known many h at clean first =
    arguments_low c d tail expected (CallTree s f (list_trees es)) (list_trees es) types (λ k vars. expected_arguments (params_of k f) (list_trees es)) cost (where_true {A = ℕ} (is_none types) 13) [] error
    (types_called c f es fn types known many) h (λ k vars v. refl)
    (λ k vars holds sees. call_low c d tail s f es fn types behind known many h.keeps at k vars holds sees
    ∙ ap (λ (l : List ℕ). l ++ where_true {A = ℕ} (is_none types) 13) (no_kinds s (where_true {A = ℕ} (is_none behind && not tail) 12) clean) ∙ sym (append-nil (where_true {A = ℕ} (is_none types) 13))) first

pub call_checks : (c new : Checker) (tail : Bool) (expected : Expected) (s : Span) (f : List ℕ) (es : List Expr) (fn : Function) (types : Option ℕ) (behind : Option Cost) (cost parts : Cost) (r : Result TypedExpr TypeError)
    → look_up f c.functions ≡ Some fn → IsMany c.table fn.params (length es) types → ChecksAll c new types (list_trees es) (Ok cost) → behind ≡ look_up f new.costs
    → at_span s (where_true {A = ℕ} (is_none behind && not tail) 12) ≡ [] → at_span s (where_true {A = ℕ} (is_none types) 13) ≡ [] → parts ≡ two_costs cost (cost_of_call behind)
    → IsJudged new s expected (Some fn.result) None None r → IfOk r (λ x. x.value ≡ Some fn.result) → IsCounted new (Some fn.result) parts r → Checks c new tail expected (CallTree s f (list_trees es)) r
call_checks c new tail expected s f es fn types behind cost parts r known many h at inside_ right sum judged same counted =
    let ws : Known → Vars → List ExpectedTree = λ k vars. expected_arguments (params_of k f) (list_trees es) in
    let all = all_parts c new types (list_trees es) cost ws (types_called c f es fn types known many) h in
    let here : behind ≡ look_up f c.costs = at ∙ ap (λ (l : List (List ℕ × Cost)). look_up f l) h.keeps.declared.same_costs in
    let with_call : Parts c new (two_costs cost (cost_of_call behind)) (λ k vars. list_faults (place k vars false) (ws k vars) (list_trees es)) (λ k vars. words_all k vars (list_trees es))
    (λ sizes k vars. value_at 0 f sizes + expanded_all sizes k vars (list_trees es)) (λ needs k vars. max (value_at 0 f needs) (need_all needs k vars (list_trees es))) (variables_all (list_trees es)) = record {
      clean = all.clean;
      counted = λ k vars sizes needs holds sees counts.
          parts_and_call cost (cost_of_call behind) (words_all k vars (list_trees es)) (expanded_all sizes k vars (list_trees es)) (need_all needs k vars (list_trees es)) (value_at 0 f sizes) (value_at 0 f needs)
          (all.counted k vars sizes needs holds sees counts) (no_words_called behind)
          (ap (λ (o : Option Cost). (cost_of_call o).size) here ∙ size_called f c.costs sizes counts.of_sizes)
          (ap (λ (o : Option Cost). (cost_of_call o).need) here ∙ need_called f c.costs needs counts.of_needs);
      keeps = all.keeps;
      writes = all.writes;
    } in
    node_checks c new tail expected (CallTree s f (list_trees es)) (Some fn.result) parts None None r
    (parts_stand c new tail (CallTree s f (list_trees es)) (Some fn.result) (two_costs cost (cost_of_call behind)) parts None None (λ k vars. list_faults (place k vars false) (ws k vars) (list_trees es)) (λ k vars. words_all k vars (list_trees es))
    (λ sizes k vars. value_at 0 f sizes + expanded_all sizes k vars (list_trees es)) (λ needs k vars. max (value_at 0 f needs) (need_all needs k vars (list_trees es))) (variables_all (list_trees es))
    with_call sum (λ k vars v. refl) refl (λ sizes k vars. refl) (λ needs k vars. refl)
    (λ k vars holds sees. call_low c new tail s f es fn types behind known many h.keeps at k vars holds sees
    ∙ ap (λ (l : List ℕ). l ++ where_true {A = ℕ} (is_none types) 13) (no_kinds s (where_true {A = ℕ} (is_none behind && not tail) 12) inside_) ∙ no_kinds s (where_true {A = ℕ} (is_none types) 13) right)
    (λ k vars holds sees. refl)
    (λ k vars holds sees.
    let g = function_there c f fn k holds known in
    subst (λ (o : Option Signature). IsValue new.table (Some fn.result) (option_map (λ (x : Signature). x.result) o)) (sym g.1) (type_stays c.table new.table h.keeps.declared.grows fn.result g.0.result g.2.of_result))) judged same counted

-- ---- exceptions
exception_not_there : (c : Checker) (x : List ℕ) (k : Known) → Holds c k → look_up x c.exceptions ≡ None → look_up x k.exceptions ≡ None
exception_not_there c x k holds e = both_none (IsParts c.table) (look_up x c.exceptions) (look_up x k.exceptions) (alike_at (IsParts c.table) c.exceptions k.exceptions holds.of_exceptions x) e

abbrev IsRaised : Checker → List ℕ → ℕ → Known → Type 0
IsRaised c x list k = (ts : Tys) × (look_up x k.exceptions ≡ Some ts) × IsParts c.table list ts

exception_there : (c : Checker) (x : List ℕ) (list : ℕ) (k : Known) → Holds c k → look_up x c.exceptions ≡ Some list → IsRaised c x list k
exception_there c x list k holds e = both_found (IsParts c.table) (look_up x c.exceptions) (look_up x k.exceptions) list (alike_at (IsParts c.table) c.exceptions k.exceptions holds.of_exceptions x) e

abbrev raise_wants : List ℕ → Trees → Known → Vars → List ExpectedTree
raise_wants x es k vars = expected_arguments (look_up x k.exceptions) es

values_raised : (c : Checker) (x : List ℕ) (es : Trees) → look_up x c.exceptions ≡ None → (k : Known) (vars : Vars) → Holds c k → Sees c vars → AreExpected c.table None (raise_wants x es k vars)
values_raised c x es none k vars holds sees = ap (λ (o : Option Tys). expected_arguments o es) (exception_not_there c x k holds none)

types_raised : (c : Checker) (x : List ℕ) (es : List Expr) (list : ℕ) (types : Option ℕ) → look_up x c.exceptions ≡ Some list → IsMany c.table list (length es) types → (k : Known) (vars : Vars) → Holds c k → Sees c vars → AreExpected c.table types (raise_wants x (list_trees es) k vars)
types_raised c x es list types known many k vars holds sees =
    let g = exception_there c x list k holds known in
    subst (λ (o : Option Tys). AreExpected c.table types (expected_arguments o (list_trees es))) (sym g.1) (arguments_wanted c.table list types g.0 es many g.2)

pub raise_other : (c b : Checker) (expected : Expected) (s : Span) (x : List ℕ) (es : Trees) (error : TypeError) → look_up x c.exceptions ≡ None → ChecksAll c b None es (Err error) → (new : Checker) → Checks c new false expected (RaiseTree s x es) (Err error)
raise_other c b expected s x es error none h = arguments_failed c b false expected (RaiseTree s x es) es None (raise_wants x es) error (values_raised c x es none) h (λ k vars v. refl)

pub raise_unknown : (c d : Checker) (expected : Expected) (s : Span) (x : List ℕ) (es : Trees) (cost : Cost) → look_up x c.exceptions ≡ None → ChecksAll c d None es (Ok cost) → (new : Checker) → Checks c new false expected (RaiseTree s x es) (Err (Fault 17 s))
raise_unknown c d expected s x es cost none h new =
    own_failed c new false expected (RaiseTree s x es) 17
    (arguments_clean c d false (RaiseTree s x es) es None (raise_wants x es) cost (values_raised c x es none) h (λ k vars v. refl))
    (λ k vars v holds sees. middle_first (place k vars false) v (RaiseTree s x es) 17 []
    (ap (λ (o : Option Tys). wrong_number o es) (exception_not_there c x k holds none)) refl
    (ap (λ (o : Option Tys). where_true {A = ℕ} (is_none o) 17) (exception_not_there c x k holds none)))

pub raise_failed : (c b : Checker) (expected : Expected) (s : Span) (x : List ℕ) (es : List Expr) (list : ℕ) (types : Option ℕ) (error : TypeError) → look_up x c.exceptions ≡ Some list → IsMany c.table list (length es) types
    → ChecksAll c b types (list_trees es) (Err error) → (new : Checker) → Checks c new false expected (RaiseTree s x (list_trees es)) (Err error)
raise_failed c b expected s x es list types error known many h =
    arguments_failed c b false expected (RaiseTree s x (list_trees es)) (list_trees es) types (raise_wants x (list_trees es)) error (types_raised c x es list types known many) h (λ k vars v. refl)

raise_low : (c : Checker) (s : Span) (x : List ℕ) (es : List Expr) (list : ℕ) (types : Option ℕ) → look_up x c.exceptions ≡ Some list → IsMany c.table list (length es) types
    → (k : Known) (vars : Vars) → Holds c k → Sees c vars → low_kinds (place k vars false) (RaiseTree s x (list_trees es)) ≡ where_true {A = ℕ} (is_none types) 13
raise_low c s x es list types known many k vars holds sees =
    let g = exception_there c x list k holds known in
    ap (λ (o : Option Tys). wrong_number o (list_trees es)) g.1 ∙ number_test c.table list types g.0 es many g.2

pub raise_number : (c d : Checker) (expected : Expected) (s : Span) (x : List ℕ) (es : List Expr) (list : ℕ) (types : Option ℕ) (cost : Cost) (error : TypeError) → look_up x c.exceptions ≡ Some list → IsMany c.table list (length es) types
    → ChecksAll c d types (list_trees es) (Ok cost) → IsFirstOf (at_span s (where_true {A = ℕ} (is_none types) 13)) error → (new : Checker) → Checks c new false expected (RaiseTree s x (list_trees es)) (Err error)
raise_number c d expected s x es list types cost error known many h first =
    arguments_low c d false expected (RaiseTree s x (list_trees es)) (list_trees es) types (raise_wants x (list_trees es)) cost (where_true {A = ℕ} (is_none types) 13) [] error
    (types_raised c x es list types known many) h (λ k vars v. refl)
    (λ k vars holds sees. raise_low c s x es list types known many k vars holds sees ∙ sym (append-nil (where_true {A = ℕ} (is_none types) 13))) first

pub raise_checks : (c new : Checker) (expected : Expected) (s : Span) (x : List ℕ) (es : List Expr) (list : ℕ) (types : Option ℕ) (cost : Cost) (r : Result TypedExpr TypeError) → look_up x c.exceptions ≡ Some list → IsMany c.table list (length es) types
    → ChecksAll c new types (list_trees es) (Ok cost) → at_span s (where_true {A = ℕ} (is_none types) 13) ≡ []
    → IsJudged new s expected None None None r → IfOk r (λ f. f.value ≡ None) → IsCounted new None cost r → Checks c new false expected (RaiseTree s x (list_trees es)) r
raise_checks c new expected s x es list types cost r known many h right judged same counted =
    node_checks c new false expected (RaiseTree s x (list_trees es)) None cost None None r
    (parts_stand c new false (RaiseTree s x (list_trees es)) None cost cost None None (λ k vars. list_faults (place k vars false) (raise_wants x (list_trees es) k vars) (list_trees es)) (λ k vars. words_all k vars (list_trees es))
    (λ sizes k vars. expanded_all sizes k vars (list_trees es)) (λ needs k vars. need_all needs k vars (list_trees es)) (variables_all (list_trees es))
    (all_parts c new types (list_trees es) cost (raise_wants x (list_trees es)) (types_raised c x es list types known many) h) refl (λ k vars v. refl) refl (λ sizes k vars. refl) (λ needs k vars. refl)
    (λ k vars holds sees. raise_low c s x es list types known many k vars holds sees ∙ no_kinds s (where_true {A = ℕ} (is_none types) 13) right)
    (λ k vars holds sees. ap (λ (o : Option Tys). where_true {A = ℕ} (is_none o) 17) (exception_there c x list k holds known).1)
    (λ k vars holds sees. tt)) judged same counted
