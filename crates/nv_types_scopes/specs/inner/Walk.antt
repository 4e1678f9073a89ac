-- What the walk over an expression gives.
use Rattle.std.specs.Prelude.{◌≡◌, ℕ, Bool, false, List, ◌++◌, Option, Result, IfOk, OnOk}
use Rattle.nv_ast.specs.Tree.{Tree, Trees, tree_and}
use Rattle.nv_ast.specs.Scope.{Known, Vars, Context}
use Rattle.nv_ast.specs.Typing.{type_at}
use Rattle.nv_ast.specs.Faults.{Expected as ExpectedTree, faults, list_faults}
use Rattle.nv_ast.specs.Sizes.{GroupNumbers, words_at, expanded, need, variables, words_all, expanded_all, need_all, variables_all}
use Rattle.nv_types_table.specs.declared.error.TypeError.{TypeError}
use Rattle.nv_types_scopes.specs.declared.expected.Expected.{Expected}
use Rattle.nv_types_table.specs.declared.cost.Cost.{Cost}
use Rattle.nv_types_scopes.specs.declared.functions.Checker.{Checker}
use Rattle.nv_types_scopes.specs.declared.functions.TypedExpr.{TypedExpr}
use Rattle.nv_types_table.specs.inner.Faulty.{Judges}
use Rattle.nv_types_table.specs.inner.Store.{Store, IsValue}
use Rattle.nv_types_table.specs.inner.Costs.{IsCost}
use Rattle.nv_types_scopes.specs.inner.Judging.{IsExpected, AreExpected}
use Rattle.nv_types_scopes.specs.inner.Standing.{Holds, Sees, Counts, Keeps, place, written_in}

-- an expression's first fault, or its type and its cost
pub record Checks (c new : Checker) (tail : Bool) (expected : Expected) (e : Tree) (r : Result TypedExpr TypeError) : Type 0 where
  pub judged : (k : Known) (vars : Vars) (w : ExpectedTree) → Holds c k → Sees c vars → IsExpected c.table expected w → Judges (faults (place k vars tail) w e) r
  pub typed : (k : Known) (vars : Vars) → Holds c k → Sees c vars → IfOk r (λ found. IsValue new.table found.value (type_at k vars e))
  pub counted : (k : Known) (vars : Vars) (sizes needs : GroupNumbers) → Holds c k → Sees c vars → Counts c sizes needs → IfOk r (λ found. IsCost found.cost (words_at k vars e) (expanded sizes k vars e) (need needs k vars e))
  pub keeps : OnOk r (Keeps c new)
  pub writes : OnOk r (written_in new ≡ written_in c ++ variables e)

-- the same of arguments
pub record ChecksAll (c new : Checker) (types : Option ℕ) (es : Trees) (r : Result Cost TypeError) : Type 0 where
  pub judged : (k : Known) (vars : Vars) (ws : List ExpectedTree) → Holds c k → Sees c vars → AreExpected c.table types ws → Judges (list_faults (place k vars false) ws es) r
  pub counted : (k : Known) (vars : Vars) (sizes needs : GroupNumbers) → Holds c k → Sees c vars → Counts c sizes needs → IfOk r (λ cost. IsCost cost (words_all k vars es) (expanded_all sizes k vars es) (need_all needs k vars es))
  pub keeps : OnOk r (Keeps c new)
  pub writes : OnOk r (written_in new ≡ written_in c ++ variables_all es)

-- what is wanted of the next of some arguments, and of those after it
abbrev pub ExpectsNext : Store → Option ℕ → Expected → Option ℕ → Type 0
ExpectsNext s left expected rest = (vs : List ExpectedTree) → AreExpected s left vs
    → (v : ExpectedTree) × (us : List ExpectedTree) × IsExpected s expected v × AreExpected s rest us × ((p : Context) (e : Tree) (es : Trees) → list_faults p vs (tree_and e es) ≡ faults p v e ++ list_faults p us es)
