-- What a pattern binds.
use Rattle.std.specs.Prelude.{◌≡◌, ℕ, List, ◌++◌, Option, Some, Result, IfOk, OnOk}
use Rattle.nv_ast.specs.declared.token.Span.{Span}
use Rattle.nv_ast.specs.Tree.{PatternTree, PatternTrees}
use Rattle.nv_ast.specs.Types.{Ty, Tys}
use Rattle.nv_ast.specs.Scope.{Known, Vars, bind_value, bind_raised, names_in}
use Rattle.nv_ast.specs.Tests.{look_up}
use Rattle.nv_ast.specs.Faults.{at_span, variable_twice, not_fitting, raised_kinds}
use Rattle.nv_types_table.specs.declared.error.TypeError.{TypeError}
use Rattle.nv_types_scopes.specs.declared.functions.Checker.{Checker}
use Rattle.nv_types_table.specs.inner.Faulty.{Judges}
use Rattle.nv_types_table.specs.inner.Store.{IsParts, IsValue}
use Rattle.nv_types_scopes.specs.inner.Standing.{Holds, Sees, KeepsDeclared}

-- the variables in sight have new ones in front
pub record Adds (old new : Checker) : Type 0 where
  pub declared : KeepsDeclared old new
  pub same_written : new.written ≡ old.written
  pub newer : List (List ℕ × ℕ)
  pub behind : new.scope ≡ newer ++ old.scope

pub record BindsLet {T : Type 0} (c new : Checker) (s : Span) (p : PatternTree) (value : Option ℕ) (r : Result T TypeError) : Type 0 where
  pub judged : (t : Option Ty) → IsValue c.table value t → Judges (at_span s (variable_twice (names_in p) ++ not_fitting p t)) r
  pub sees : (t : Option Ty) (vars : Vars) → IsValue c.table value t → Sees c vars → OnOk r (Sees new (bind_value p t vars))
  pub adds : OnOk r (Adds c new)

pub record BindsHandler (c new : Checker) (s : Span) (x : List ℕ) (ps : PatternTrees) (r : Result ℕ TypeError) : Type 0 where
  pub judged : (k : Known) → Holds c k → Judges (at_span s (raised_kinds k x ps)) r
  pub sees : (k : Known) (vars : Vars) → Holds c k → Sees c vars → OnOk r (Sees new (bind_raised ps (look_up x k.exceptions) vars))
  pub typed : (k : Known) → Holds c k → IfOk r (λ i. (ts : Tys) × (look_up x k.exceptions ≡ Some ts) × IsParts new.table i ts)
  pub adds : OnOk r (Adds c new)
