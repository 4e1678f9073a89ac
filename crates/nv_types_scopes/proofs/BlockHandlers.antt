-- A try: what is tried, what stands between, and the handler.
use Rattle.std.proofs.Common.{◌≡◌, ◌∙◌, refl, ap, sym, subst, ℕ, ◌+◌, ◌-◌, max, Bool, false, List, ◌++◌, drop, length, Option, None, Some, Result, Ok, Err, arith, []}
use Rattle.std.specs.Result.{IfOk}
use Rattle.std.specs.Option.{option_or}
use Rattle.nv_ast.specs.declared.token.Span.{Span}
use Rattle.nv_ast.specs.Tree.{Tree, TryTree, PatternTrees}
use Rattle.nv_ast.specs.Tests.{look_up}
use Rattle.nv_ast.specs.Types.{Ty, Tys, words_of_value}
use Rattle.nv_ast.specs.Scope.{Known, Vars}
use Rattle.nv_ast.specs.Typing.{type_at, or_ty}
use Rattle.nv_ast.specs.Faults.{Expected as ExpectedTree, faults, anything, same_as, at_span, raised_kinds}
use Rattle.nv_ast.specs.Sizes.{words_at, expanded, need, variables, handler_vars, raised_words}
use Rattle.nv_types_table.specs.declared.error.TypeError.{TypeError}
use Rattle.nv_types_scopes.specs.declared.expected.Expected.{Expected}
use Rattle.nv_types_scopes.specs.declared.expected.Expected.TheVariants.{Anything}
use Rattle.nv_types_table.specs.declared.cost.Cost.{Cost}
use Rattle.nv_types_table.specs.declared.table.Facts.{Facts}
use Rattle.nv_types_scopes.specs.declared.functions.Checker.{Checker}
use Rattle.nv_types_scopes.specs.declared.functions.TypedExpr.{TypedExpr}
use Rattle.nv_types_table.specs.inner.Faulty.{Judges}
use Rattle.nv_types_table.specs.inner.Store.{Store, IsParts, IsValue}
use Rattle.nv_types_table.specs.inner.Knowing.{AreKnown}
use Rattle.nv_types_table.specs.inner.Cells.{still}
use Rattle.nv_types_table.specs.inner.Costs.{IsCost, node_cost, two_costs}
use Rattle.nv_types_scopes.specs.inner.Judging.{IsExpected, judged_faults}
use Rattle.nv_types_scopes.specs.inner.Patterns.{BindsHandler}
use Rattle.nv_types_scopes.specs.inner.Standing.{Holds, Sees, KeepsDeclared, Keeps, place, written_in}
use Rattle.nv_types_scopes.specs.inner.Walk.{Checks}
use Rattle.nv_types_table.proofs.Firsts.{first_append, judges_behind}
use Rattle.nv_types_table.proofs.Staying.{value_stays, parts_stay}
use Rattle.nv_types_scopes.proofs.Holding.{holds_stays, sees_stay, counts_stay, wanted_stays, declared_trans}
use Rattle.nv_types_scopes.proofs.BlockStanding.{scope_left, writes_trans, written_same}
use Rattle.nv_types_scopes.proofs.BlockCosts.{cost_same, cost_moved}
use Rattle.nv_types_scopes.proofs.BlockNodes.{node_checks}
use Rattle.nv_types_scopes.proofs.BlockChoices.{first_value}
use Rattle.nv_types_scopes.proofs.WalkNodes.{failed}
use Rattle.nv_types_scopes.proofs.WalkCosts.{two_parts}

pub try_fails_at_body : (c new : Checker) (tail : Bool) (expected : Expected) (s : Span) (a : Tree) (x : List ℕ) (ps : PatternTrees) (h : Tree) (why : TypeError) → Checks c new false Anything a (Err why) → Checks c new tail expected (TryTree s a x ps h) (Err why)
try_fails_at_body c new tail expected s a x ps h why g = failed c new tail expected (TryTree s a x ps h) why (λ k vars w holds sees is. first_append _ _ why (g.judged k vars anything holds sees refl))

pub try_fails_at_patterns : (c c1 bound new : Checker) (tail : Bool) (expected : Expected) (s : Span) (a : Tree) (x : List ℕ) (ps : PatternTrees) (h : Tree) (f : TypedExpr) (why : TypeError)
    → Checks c c1 false Anything a (Ok f) → BindsHandler c1 bound s x ps (Err why) → Checks c new tail expected (TryTree s a x ps h) (Err why)
try_fails_at_patterns c c1 bound new tail expected s a x ps h f why h1 hp = failed c new tail expected (TryTree s a x ps h) why (λ k vars w holds sees is.
    let done1 = h1.judged k vars anything holds sees refl in
    let here = hp.judged k (holds_stays c c1 k h1.keeps.declared holds) in
    judges_behind {T = TypedExpr} _ _ (Err why) done1 (first_append _ _ why here))

-- the walk up to the handler
record Reached (c c2 : Checker) (other : Expected) (a : Tree) (x : List ℕ) (ps : PatternTrees) (f : TypedExpr) (k : Known) (vars : Vars) (s : Span) : Type 0 where
  holds : Holds c2 k
  sees : Sees c2 (handler_vars k vars x ps)
  done : faults (place k vars false) anything a ≡ []
  bound : at_span s (raised_kinds k x ps) ≡ []
  valued : IsValue c2.table f.value (type_at k vars a)
  is_other : IsExpected c2.table other (same_as (type_at k vars a))

reached : (c c1 c2 : Checker) (other : Expected) (s : Span) (a : Tree) (x : List ℕ) (ps : PatternTrees) (f : TypedExpr) (types : ℕ)
    → Checks c c1 false Anything a (Ok f) → BindsHandler c1 c2 s x ps (Ok types) → ((st : Store) (t : Option Ty) → IsValue st f.value t → IsExpected st other (same_as t))
    → (k : Known) (vars : Vars) → Holds c k → Sees c vars → Reached c c2 other a x ps f k vars s
reached c c1 c2 other s a x ps f types h1 hp is_other k vars holds sees =
    let holds1 = holds_stays c c1 k h1.keeps.declared holds in
    let sees1 = sees_stay c c1 vars h1.keeps sees in
    let valued : IsValue c2.table f.value (type_at k vars a) = value_stays c1.table c2.table hp.adds.declared.grows f.value (type_at k vars a) (h1.typed k vars holds sees) in
    record {
      holds = holds_stays c1 c2 k hp.adds.declared holds1;
      sees = hp.sees k vars holds1 sees1;
      done = h1.judged k vars anything holds sees refl;
      bound = hp.judged k holds1;
      valued = valued;
      is_other = is_other c2.table (type_at k vars a) valued;
    }

pub try_fails_at_handler : (c c1 c2 new last : Checker) (tail : Bool) (expected other : Expected) (s : Span) (a : Tree) (x : List ℕ) (ps : PatternTrees) (h : Tree) (f : TypedExpr) (types : ℕ) (why : TypeError)
    → Checks c c1 false Anything a (Ok f) → BindsHandler c1 c2 s x ps (Ok types) → ((st : Store) (t : Option Ty) → IsValue st f.value t → IsExpected st other (same_as t)) → Checks c2 new tail other h (Err why)
    → Checks c last tail expected (TryTree s a x ps h) (Err why)
try_fails_at_handler c c1 c2 new last tail expected other s a x ps h f types why h1 hp is_other h3 = failed c last tail expected (TryTree s a x ps h) why (λ k vars w holds sees is.
    let r = reached c c1 c2 other s a x ps f types h1 hp is_other k vars holds sees in
    let here = h3.judged k (handler_vars k vars x ps) (same_as (type_at k vars a)) r.holds r.sees r.is_other in
    judges_behind {T = TypedExpr} _ _ (Err why) r.done (judges_behind {T = TypedExpr} _ _ (Err why) r.bound (first_append _ _ why here)))

pub try_checks : (c c1 c2 c3 : Checker) (tail : Bool) (expected other : Expected) (s : Span) (a : Tree) (x : List ℕ) (ps : PatternTrees) (h : Tree) (f g : TypedExpr) (types mark : ℕ) (left : List (List ℕ × ℕ)) (facts : Facts) (value : Option ℕ) (raised parts : Cost) (r : Result TypedExpr TypeError)
    → Checks c c1 false Anything a (Ok f) → BindsHandler c1 c2 s x ps (Ok types) → ((st : Store) (t : Option Ty) → IsValue st f.value t → IsExpected st other (same_as t)) → Checks c2 c3 tail other h (Ok g)
    → mark ≡ length c1.scope → left ≡ drop (length c3.scope - mark) c3.scope
    → ((ts : Tys) → IsParts c3.table types ts → AreKnown facts ts) → raised ≡ record { words = facts.words; size = 0; need = 0 }
    → value ≡ option_or f.value g.value → parts ≡ two_costs raised (two_costs f.cost g.cost)
    → ((w : ExpectedTree) (t : Option Ty) → IsExpected c3.table expected w → IsValue c3.table value t → Judges (judged_faults s w t None None) r)
    → IfOk r (λ found. found.value ≡ value)
    → ((t : Option Ty) → IsValue c3.table value t → IfOk r (λ found. found.cost ≡ node_cost (still (words_of_value t)) parts))
    → Checks c (record c3 { scope = left }) tail expected (TryTree s a x ps h) r
try_checks c c1 c2 c3 tail expected other s a x ps h f g types mark left facts value raised parts r h1 hp is_other h3 marked forgot known of_raised of_value of_parts judged same cost =
    node_checks c (record c3 { scope = left }) tail expected (TryTree s a x ps h) value parts r
    keeps
    (writes_trans (written_in c) (written_in c1) (written_in c3) (variables a) (variables h) h1.writes (h3.writes ∙ ap (λ (l : List (List ℕ)). l ++ variables h) (written_same c1 c2 hp.adds.same_written)))
    (λ k vars w holds sees is.
    let q = reached c c1 c2 other s a x ps f types h1 hp is_other k vars holds sees in
    let done3 = h3.judged k (handler_vars k vars x ps) (same_as (type_at k vars a)) q.holds q.sees q.is_other in
    judges_behind _ _ r q.done (judges_behind _ _ r q.bound (judges_behind _ _ r done3
    (judged w (type_at k vars (TryTree s a x ps h)) (wanted_stays c.table c3.table keeps.declared.grows expected w is) (typed k vars holds sees)))))
    typed
    (λ k vars sizes needs holds sees counts.
    let q = reached c c1 c2 other s a x ps f types h1 hp is_other k vars holds sees in
    let holds1 = holds_stays c c1 k h1.keeps.declared holds in
    let counts2 = counts_stay c1 c2 sizes needs hp.adds.declared (counts_stay c c1 sizes needs h1.keeps.declared counts) in
    let cost1 = h1.counted k vars sizes needs holds sees counts in
    let cost3 = h3.counted k (handler_vars k vars x ps) sizes needs q.holds q.sees counts2 in
    let at = hp.typed k holds1 in
    let whole = raised_is k at.0 (known at.0 (parts_stay c2.table c3.table h3.keeps.declared.grows types at.0 at.2)) at.1 in
    let all = two_parts raised (two_costs f.cost g.cost) _ _ _ _ _ _ whole (two_parts f.cost g.cost _ _ _ _ _ _ cost1 cost3) in
    record {
      words = raised_words (look_up x k.exceptions) + (words_at k vars a + words_at k (handler_vars k vars x ps) h);
      size = expanded sizes k vars a + expanded sizes k (handler_vars k vars x ps) h;
      most_need = max (need needs k vars a) (need needs k (handler_vars k vars x ps) h);
      are = cost_moved parts (two_costs raised (two_costs f.cost g.cost)) _ _ _ of_parts (cost_same (two_costs raised (two_costs f.cost g.cost)) _ _ _ _ _ _ refl (plus_none _) (max_none _) all);
      of_size = refl;
      of_need = grouped _ _ _ _;
    })
    same cost
  where
    declared : KeepsDeclared c c3
    declared = declared_trans c c1 c3 h1.keeps.declared (declared_trans c1 c2 c3 hp.adds.declared h3.keeps.declared)

    back : left ≡ c.scope
    back = scope_left c1.scope hp.adds.newer c3.scope left (h3.keeps.same_scope ∙ hp.adds.behind) (forgot ∙ ap (λ (n : ℕ). drop (length c3.scope - n) c3.scope) marked) ∙ h1.keeps.same_scope

    keeps : Keeps c (record c3 { scope = left })
    keeps = record {
      declared = record {
        grows = declared.grows;
        same_layouts = declared.same_layouts;
        same_exceptions = declared.same_exceptions;
        same_functions = declared.same_functions;
        same_costs = declared.same_costs;
      };
      same_scope = back;
    }

    typed : (k : Known) (vars : Vars) → Holds c k → Sees c vars → IsValue c3.table value (or_ty (type_at k vars a) (type_at k (handler_vars k vars x ps) h))
    typed k vars holds sees =
        let q = reached c c1 c2 other s a x ps f types h1 hp is_other k vars holds sees in
        first_value c3.table f.value g.value value (type_at k vars a) (type_at k (handler_vars k vars x ps) h)
        (value_stays c2.table c3.table h3.keeps.declared.grows f.value (type_at k vars a) q.valued) (h3.typed k (handler_vars k vars x ps) q.holds q.sees) of_value

    raised_is : (k : Known) (ts : Tys) → AreKnown facts ts → look_up x k.exceptions ≡ Some ts → IsCost raised (raised_words (look_up x k.exceptions)) 0 0
    raised_is k ts are e = subst (λ (p : Cost). IsCost p (raised_words (look_up x k.exceptions)) 0 0) (sym of_raised) (record {
      of_words = are.of_words ∙ ap still (sym (ap raised_words e));
      of_size = refl;
      of_need = refl;
    })

    plus_none : (n : ℕ) → 0 + n ≡ n
    plus_none n = omega arith

    max_none : (n : ℕ) → max 0 n ≡ n
    max_none n = omega arith

    grouped : (n p q m : ℕ) → n + ((p + q) + m) ≡ n + (p + (q + m))
    grouped n p q m = omega arith
