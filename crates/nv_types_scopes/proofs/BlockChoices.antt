-- An if: its condition, and the two that are chosen from.
use Rattle.std.proofs.Common.{◌≡◌, refl, sym, subst, ℕ, ◌+◌, max, Bool, false, ◌++◌, Option, None, Some, Result, Ok, Err}
use Rattle.std.specs.Result.{IfOk}
use Rattle.std.specs.Option.{option_or}
use Rattle.nv_ast.specs.declared.token.Span.{Span}
use Rattle.nv_ast.specs.Tree.{Tree, IfTree}
use Rattle.nv_ast.specs.Types.{Ty, BoolTy, words_of_value}
use Rattle.nv_ast.specs.Scope.{Known, Vars}
use Rattle.nv_ast.specs.Typing.{type_at, or_ty}
use Rattle.nv_ast.specs.Faults.{Expected as ExpectedTree, anything, of_type, same_as}
use Rattle.nv_ast.specs.Sizes.{words_at, expanded, need, variables}
use Rattle.nv_types_table.specs.declared.error.TypeError.{TypeError}
use Rattle.nv_types_scopes.specs.declared.expected.Expected.{Expected}
use Rattle.nv_types_scopes.specs.declared.expected.Expected.TheVariants.{Anything, Typed}
use Rattle.nv_types_table.specs.declared.cost.Cost.{Cost}
use Rattle.nv_types_scopes.specs.declared.functions.Checker.{Checker}
use Rattle.nv_types_scopes.specs.declared.functions.TypedExpr.{TypedExpr}
use Rattle.nv_types_table.specs.inner.Faulty.{Judges}
use Rattle.nv_types_table.specs.inner.Store.{Store, IsValue}
use Rattle.nv_types_table.specs.inner.Cells.{still}
use Rattle.nv_types_table.specs.inner.Costs.{node_cost, two_costs}
use Rattle.nv_types_scopes.specs.inner.Judging.{IsExpected, judged_faults}
use Rattle.nv_types_scopes.specs.inner.Standing.{Holds, Sees, Keeps, written_in}
use Rattle.nv_types_scopes.specs.inner.Walk.{Checks}
use Rattle.nv_types_table.proofs.Firsts.{first_append, judges_behind}
use Rattle.nv_types_table.proofs.Staying.{value_stays}
use Rattle.nv_types_scopes.proofs.Holding.{holds_stays, sees_stay, counts_stay, wanted_stays, Keeps-trans}
use Rattle.nv_types_scopes.proofs.BlockStanding.{writes_trans}
use Rattle.nv_types_scopes.proofs.BlockCosts.{cost_moved}
use Rattle.nv_types_scopes.proofs.BlockNodes.{node_checks}
use Rattle.nv_types_scopes.proofs.WalkNodes.{failed}
use Rattle.nv_types_scopes.proofs.WalkCosts.{two_parts}

-- where the first of two parts has a value, the type of that, else of the other
pub first_value : (s : Store) (a b v : Option ℕ) (t u : Option Ty) → IsValue s a t → IsValue s b u → v ≡ option_or a b → IsValue s v (or_ty t u)
first_value s None b v None u h g e = subst (λ (o : Option ℕ). IsValue s o u) (sym e) g
first_value s (Some i) b v (Some t) u h g e = subst (λ (o : Option ℕ). IsValue s o (Some t)) (sym e) h
first_value s None b v (Some t) u h g e = absurd h
first_value s (Some i) b v None u h g e = absurd h

pub choice_fails_at_condition : (c new : Checker) (tail : Bool) (expected : Expected) (s : Span) (x a b : Tree) (why : TypeError) → Checks c new false (Typed 1) x (Err why) → Checks c new tail expected (IfTree s x a b) (Err why)
choice_fails_at_condition c new tail expected s x a b why h = failed c new tail expected (IfTree s x a b) why (λ k vars w holds sees is. first_append _ _ why (h.judged k vars (of_type BoolTy) holds sees (BoolTy, refl, refl)))

pub choice_fails_at_first : (c c1 new : Checker) (tail : Bool) (expected : Expected) (s : Span) (x a b : Tree) (f : TypedExpr) (why : TypeError)
    → Checks c c1 false (Typed 1) x (Ok f) → Checks c1 new tail Anything a (Err why) → Checks c new tail expected (IfTree s x a b) (Err why)
choice_fails_at_first c c1 new tail expected s x a b f why h g = failed c new tail expected (IfTree s x a b) why (λ k vars w holds sees is.
    let done = h.judged k vars (of_type BoolTy) holds sees (BoolTy, refl, refl) in
    let here = g.judged k vars anything (holds_stays c c1 k h.keeps.declared holds) (sees_stay c c1 vars h.keeps sees) refl in
    judges_behind {T = TypedExpr} _ _ (Err why) done (first_append _ _ why here))

pub choice_fails_at_second : (c c1 c2 new : Checker) (tail : Bool) (expected other : Expected) (s : Span) (x a b : Tree) (f g : TypedExpr) (why : TypeError)
    → Checks c c1 false (Typed 1) x (Ok f) → Checks c1 c2 tail Anything a (Ok g) → ((st : Store) (t : Option Ty) → IsValue st g.value t → IsExpected st other (same_as t)) → Checks c2 new tail other b (Err why)
    → Checks c new tail expected (IfTree s x a b) (Err why)
choice_fails_at_second c c1 c2 new tail expected other s x a b f g why h1 h2 is_other h3 = failed c new tail expected (IfTree s x a b) why (λ k vars w holds sees is.
    let holds1 = holds_stays c c1 k h1.keeps.declared holds in
    let sees1 = sees_stay c c1 vars h1.keeps sees in
    let holds2 = holds_stays c1 c2 k h2.keeps.declared holds1 in
    let sees2 = sees_stay c1 c2 vars h2.keeps sees1 in
    let done1 = h1.judged k vars (of_type BoolTy) holds sees (BoolTy, refl, refl) in
    let done2 = h2.judged k vars anything holds1 sees1 refl in
    let here = h3.judged k vars (same_as (type_at k vars a)) holds2 sees2 (is_other c2.table (type_at k vars a) (h2.typed k vars holds1 sees1)) in
    judges_behind {T = TypedExpr} _ _ (Err why) done1 (judges_behind {T = TypedExpr} _ _ (Err why) done2 (first_append _ _ why here)))

pub choice_checks : (c c1 c2 c3 : Checker) (tail : Bool) (expected other : Expected) (s : Span) (x a b : Tree) (f g h : TypedExpr) (value : Option ℕ) (parts : Cost) (r : Result TypedExpr TypeError)
    → Checks c c1 false (Typed 1) x (Ok f) → Checks c1 c2 tail Anything a (Ok g) → ((st : Store) (t : Option Ty) → IsValue st g.value t → IsExpected st other (same_as t)) → Checks c2 c3 tail other b (Ok h)
    → value ≡ option_or g.value h.value → parts ≡ two_costs f.cost (two_costs g.cost h.cost)
    → ((w : ExpectedTree) (t : Option Ty) → IsExpected c3.table expected w → IsValue c3.table value t → Judges (judged_faults s w t None None) r)
    → IfOk r (λ found. found.value ≡ value)
    → ((t : Option Ty) → IsValue c3.table value t → IfOk r (λ found. found.cost ≡ node_cost (still (words_of_value t)) parts))
    → Checks c c3 tail expected (IfTree s x a b) r
choice_checks c c1 c2 c3 tail expected other s x a b f g h value parts r h1 h2 is_other h3 of_value of_parts judged same cost =
    node_checks c c3 tail expected (IfTree s x a b) value parts r
    keeps
    (writes_trans (written_in c) (written_in c1) (written_in c3) (variables x) (variables a ++ variables b) h1.writes (writes_trans (written_in c1) (written_in c2) (written_in c3) (variables a) (variables b) h2.writes h3.writes))
    (λ k vars w holds sees is.
    let holds1 = holds_stays c c1 k h1.keeps.declared holds in
    let sees1 = sees_stay c c1 vars h1.keeps sees in
    let holds2 = holds_stays c1 c2 k h2.keeps.declared holds1 in
    let sees2 = sees_stay c1 c2 vars h2.keeps sees1 in
    let done1 = h1.judged k vars (of_type BoolTy) holds sees (BoolTy, refl, refl) in
    let done2 = h2.judged k vars anything holds1 sees1 refl in
    let done3 = h3.judged k vars (same_as (type_at k vars a)) holds2 sees2 (is_other c2.table (type_at k vars a) (h2.typed k vars holds1 sees1)) in
    judges_behind _ _ r done1 (judges_behind _ _ r done2 (judges_behind _ _ r done3
    (judged w (or_ty (type_at k vars a) (type_at k vars b)) (wanted_stays c.table c3.table keeps.declared.grows expected w is) (typed k vars holds sees)))))
    typed
    (λ k vars sizes needs holds sees counts.
    let holds1 = holds_stays c c1 k h1.keeps.declared holds in
    let sees1 = sees_stay c c1 vars h1.keeps sees in
    let counts1 = counts_stay c c1 sizes needs h1.keeps.declared counts in
    let holds2 = holds_stays c1 c2 k h2.keeps.declared holds1 in
    let sees2 = sees_stay c1 c2 vars h2.keeps sees1 in
    let counts2 = counts_stay c1 c2 sizes needs h2.keeps.declared counts1 in
    let cost1 = h1.counted k vars sizes needs holds sees counts in
    let cost2 = h2.counted k vars sizes needs holds1 sees1 counts1 in
    let cost3 = h3.counted k vars sizes needs holds2 sees2 counts2 in
    record {
      words = words_at k vars x + (words_at k vars a + words_at k vars b);
      size = expanded sizes k vars x + (expanded sizes k vars a + expanded sizes k vars b);
      most_need = max (need needs k vars x) (max (need needs k vars a) (need needs k vars b));
      are = cost_moved parts (two_costs f.cost (two_costs g.cost h.cost)) _ _ _ of_parts (two_parts f.cost (two_costs g.cost h.cost) _ _ _ _ _ _ cost1 (two_parts g.cost h.cost _ _ _ _ _ _ cost2 cost3));
      of_size = refl;
      of_need = refl;
    })
    same cost
  where
    keeps : Keeps c c3
    keeps = Keeps-trans c c1 c3 h1.keeps (Keeps-trans c1 c2 c3 h2.keeps h3.keeps)

    typed : (k : Known) (vars : Vars) → Holds c k → Sees c vars → IsValue c3.table value (or_ty (type_at k vars a) (type_at k vars b))
    typed k vars holds sees =
        let holds1 = holds_stays c c1 k h1.keeps.declared holds in
        let sees1 = sees_stay c c1 vars h1.keeps sees in
        let holds2 = holds_stays c1 c2 k h2.keeps.declared holds1 in
        let sees2 = sees_stay c1 c2 vars h2.keeps sees1 in
        first_value c3.table g.value h.value value (type_at k vars a) (type_at k vars b)
        (value_stays c2.table c3.table h3.keeps.declared.grows g.value (type_at k vars a) (h2.typed k vars holds1 sees1)) (h3.typed k vars holds2 sees2) of_value
