-- An expression whose parts have no fault, and one of whose parts has one.
use Rattle.std.proofs.Common.{◌≡◌, sym, subst, ℕ, ◌+◌, Bool, ◌++◌, Option, Result, Ok, Err}
use Rattle.std.specs.Result.{IfOk}
use Rattle.nv_ast.specs.Tree.{Tree}
use Rattle.nv_ast.specs.Types.{Ty, words_of_value}
use Rattle.nv_ast.specs.Scope.{Known, Vars}
use Rattle.nv_ast.specs.Typing.{type_at}
use Rattle.nv_ast.specs.Faults.{Expected as ExpectedTree, faults}
use Rattle.nv_ast.specs.Sizes.{GroupNumbers, words_at, expanded, need, variables, node_size, node_need}
use Rattle.nv_types_table.specs.declared.error.TypeError.{TypeError}
use Rattle.nv_types_table.specs.declared.error.TypeError.TheVariants.{NoMemory}
use Rattle.nv_types_scopes.specs.declared.expected.Expected.{Expected}
use Rattle.nv_types_table.specs.declared.cost.Cost.{Cost}
use Rattle.nv_types_scopes.specs.declared.functions.Checker.{Checker}
use Rattle.nv_types_scopes.specs.declared.functions.TypedExpr.{TypedExpr}
use Rattle.nv_types_table.specs.inner.Faulty.{Judges}
use Rattle.nv_types_table.specs.inner.Store.{IsValue}
use Rattle.nv_types_table.specs.inner.Cells.{still}
use Rattle.nv_types_table.specs.inner.Costs.{IsCost, node_cost}
use Rattle.nv_types_scopes.specs.inner.Judging.{IsExpected}
use Rattle.nv_types_scopes.specs.inner.Standing.{Holds, Sees, Counts, Keeps, place, written_in}
use Rattle.nv_types_scopes.specs.inner.Walk.{Checks}
use Rattle.nv_types_scopes.proofs.WalkNodes.{failed}
use Rattle.nv_types_scopes.proofs.WalkCosts.{node_costs}
use Rattle.nv_types_scopes.proofs.Holding.{on_ok}

-- memory exhaustion
pub wants_memory : (c new : Checker) (tail : Bool) (expected : Expected) (e : Tree) → Checks c new tail expected e (Err NoMemory)
wants_memory c new tail expected e = failed c new tail expected e NoMemory (λ k vars w holds sees is. tt)

typed_so : (new : Checker) (value : Option ℕ) (t : Option Ty) (r : Result TypedExpr TypeError) → IsValue new.table value t → IfOk r (λ found. found.value ≡ value) → IfOk r (λ found. IsValue new.table found.value t)
typed_so new value t (Ok found) h e = subst (λ (v : Option ℕ). IsValue new.table v t) (sym e) h
typed_so new value t (Err why) h e = tt

counted_so : (r : Result TypedExpr TypeError) (w : ℕ) (parts : Cost) (words size need s n : ℕ) → IsCost parts words size need → (1 + w) + size ≡ s → (2 + w) + (words + need) ≡ n
    → IfOk r (λ found. found.cost ≡ node_cost (still w) parts) → IfOk r (λ found. IsCost found.cost w s n)
counted_so (Ok found) w parts words size need s n h e f g =
    subst (λ (cost : Cost). IsCost cost w s n) (sym g)
    (subst (λ (m : ℕ). IsCost (node_cost (still w) parts) w s m) f (subst (λ (m : ℕ). IsCost (node_cost (still w) parts) w m ((2 + w) + (words + need))) e (node_costs parts w words size need h)))
counted_so (Err why) w parts words size need s n h e f g = tt

-- what the parts of an expression cost
pub record PartsCost (e : Tree) (k : Known) (vars : Vars) (sizes needs : GroupNumbers) (parts : Cost) : Type 0 where
  pub words : ℕ
  pub size : ℕ
  pub most_need : ℕ
  pub are : IsCost parts words size most_need
  pub of_size : node_size k vars e + size ≡ expanded sizes k vars e
  pub of_need : node_need k vars e + (words + most_need) ≡ need needs k vars e

-- the node after its parts
pub node_checks : (c new : Checker) (tail : Bool) (expected : Expected) (e : Tree) (value : Option ℕ) (parts : Cost) (r : Result TypedExpr TypeError)
    → Keeps c new
    → written_in new ≡ written_in c ++ variables e
    → ((k : Known) (vars : Vars) (w : ExpectedTree) → Holds c k → Sees c vars → IsExpected c.table expected w → Judges (faults (place k vars tail) w e) r)
    → ((k : Known) (vars : Vars) → Holds c k → Sees c vars → IsValue new.table value (type_at k vars e))
    → ((k : Known) (vars : Vars) (sizes needs : GroupNumbers) → Holds c k → Sees c vars → Counts c sizes needs → PartsCost e k vars sizes needs parts)
    → IfOk r (λ found. found.value ≡ value)
    → ((t : Option Ty) → IsValue new.table value t → IfOk r (λ found. found.cost ≡ node_cost (still (words_of_value t)) parts))
    → Checks c new tail expected e r
node_checks c new tail expected e value parts r keeps writes judged typed counted same cost = record {
  judged = judged;
  typed = λ k vars holds sees. typed_so new value (type_at k vars e) r (typed k vars holds sees) same;
  counted = λ k vars sizes needs holds sees counts.
      let p = counted k vars sizes needs holds sees counts in
      counted_so r (words_at k vars e) parts p.words p.size p.most_need (expanded sizes k vars e) (need needs k vars e) p.are p.of_size p.of_need (cost (type_at k vars e) (typed k vars holds sees));
  keeps = on_ok r keeps;
  writes = on_ok r writes;
}
