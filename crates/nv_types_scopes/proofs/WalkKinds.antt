-- The tree of an expression whose kind the walk has read.
use Rattle.std.proofs.Common.{◌≡◌, sym, subst, Bool, false, Result}
use Rattle.nv_ast.specs.Tree.{Tree}
use Rattle.nv_types_table.specs.declared.error.TypeError.{TypeError}
use Rattle.nv_types_scopes.specs.declared.expected.Expected.{Expected}
use Rattle.nv_types_scopes.specs.declared.functions.Checker.{Checker}
use Rattle.nv_types_scopes.specs.declared.functions.TypedExpr.{TypedExpr}
use Rattle.nv_ast.specs.Scope.{Known, Vars}
use Rattle.nv_ast.specs.Faults.{Expected as ExpectedTree, faults}
use Rattle.nv_types_table.specs.inner.Faulty.{Judges}
use Rattle.nv_types_scopes.specs.inner.Standing.{place}
use Rattle.nv_types_scopes.specs.inner.Walk.{Checks}

-- the same of an equal tree
pub of_tree : (c new : Checker) (tail : Bool) (expected : Expected) (r : Result TypedExpr TypeError) (t u : Tree) → t ≡ u → Checks c new tail expected u r → Checks c new tail expected t r
of_tree c new tail expected r t u e h = subst (λ (x : Tree). Checks c new tail expected x r) (sym e) h

-- the same where it doesn't matter whether the value is the function's
pub arm : (c new : Checker) (tail : Bool) (expected : Expected) (r : Result TypedExpr TypeError) (t u : Tree) → t ≡ u → ((k : Known) (vars : Vars) (w : ExpectedTree) → faults (place k vars tail) w u ≡ faults (place k vars false) w u) → Checks c new false expected u r → Checks c new tail expected t r
arm c new tail expected r t u e shape h = of_tree c new tail expected r t u e (record {
  judged = λ k vars w holds sees is. subst (λ l. Judges l r) (sym (shape k vars w)) (h.judged k vars w holds sees is);
  typed = h.typed;
  counted = h.counted;
  keeps = h.keeps;
  writes = h.writes;
})
