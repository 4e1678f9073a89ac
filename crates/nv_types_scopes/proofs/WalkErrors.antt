-- What the exit of a `?` returns.
use Rattle.std.proofs.Common.{◌≡◌, sym, subst, ℕ, Bool, List, Option, Result, Ok, Err}
use Rattle.std.specs.Result.{IfOk, OnOk, IsErrAnd}
use Rattle.nv_ast.specs.Tree.{Tree, Trees}
use Rattle.nv_ast.specs.Faults.{Fault as FaultAt}
use Rattle.nv_types_table.specs.declared.error.TypeError.{TypeError}
use Rattle.nv_types_table.specs.declared.error.TypeError.TheVariants.{NoMemory}
use Rattle.nv_types_scopes.specs.declared.expected.Expected.{Expected}
use Rattle.nv_types_table.specs.declared.cost.Cost.{Cost}
use Rattle.nv_types_scopes.specs.declared.functions.Checker.{Checker}
use Rattle.nv_types_scopes.specs.declared.functions.TypedExpr.{TypedExpr}
use Rattle.nv_types_table.specs.inner.Faulty.{IsFirstOf, Judges}
use Rattle.nv_types_scopes.specs.inner.Walk.{Checks, ChecksAll}
use Rattle.nv_types_scopes.proofs.WalkArms.{no_memory}

-- at the exit of a `?`
pub at_err : (c new : Checker) (tail : Bool) (expected : Expected) (e : Tree) (r : Result TypedExpr TypeError) (error : TypeError) → IsErrAnd r (λ y. y ≡ error) → Checks c new tail expected e (Err error) → Checks c new tail expected e r
at_err c new tail expected e (Err y) error is h = subst (λ (x : TypeError). Checks c new tail expected e (Err x)) (sym is) h
at_err c new tail expected e (Ok x) error is h = absurd is

pub all_answered : (c new : Checker) (types : Option ℕ) (es : Trees) (r : Result Cost TypeError) (error : TypeError) → IsErrAnd r (λ y. y ≡ error) → ChecksAll c new types es (Err error) → ChecksAll c new types es r
all_answered c new types es (Err y) error is h = subst (λ (x : TypeError). ChecksAll c new types es (Err x)) (sym is) h
all_answered c new types es (Ok x) error is h = absurd is

pub memory_wanted : (c new : Checker) (tail : Bool) (expected : Expected) (e : Tree) (r : Result TypedExpr TypeError) → IsErrAnd r (λ y. y ≡ NoMemory) → Checks c new tail expected e r
memory_wanted c new tail expected e (Err y) is = no_memory c new tail expected e y is
memory_wanted c new tail expected e (Ok x) is = absurd is

-- ---- the same of one clause
pub judges_no_memory : {T : Type 0} (faults : List FaultAt) (r : Result T TypeError) → IsErrAnd r (λ y. y ≡ NoMemory) → Judges faults r
judges_no_memory faults (Err y) is = subst (λ (x : TypeError). IsFirstOf faults x) (sym is) tt
judges_no_memory faults (Ok x) is = absurd is

pub judges_answered : {T : Type 0} (faults : List FaultAt) (r : Result T TypeError) (error : TypeError) → IsErrAnd r (λ y. y ≡ error) → IsFirstOf faults error → Judges faults r
judges_answered faults (Err y) error is h = subst (λ (x : TypeError). IsFirstOf faults x) (sym is) h
judges_answered faults (Ok x) error is h = absurd is

pub if_answered : {T : Type 0} (P : T → Type 0) (Q : TypeError → Type 0) (r : Result T TypeError) → IsErrAnd r Q → IfOk r P
if_answered P Q (Err y) is = tt
if_answered P Q (Ok x) is = absurd is

pub on_answered : {T : Type 0} (P : Type 0) (Q : TypeError → Type 0) (r : Result T TypeError) → IsErrAnd r Q → OnOk r P
on_answered P Q (Err y) is = tt
on_answered P Q (Ok x) is = absurd is
