-- Values, calls and runs that have the types which the program's text gives them.
use Rattle.std.specs.Prelude.{◌≡◌, ℕ, ◌<◌, ◌^◌, List, [], ◌∷◌, All, Option, Some, ⊤}
use Rattle.nv_base.specs.Memories.{HasSizes}
use Rattle.nv_ast.specs.Types.{Ty, WordTy, BoolTy, TupleTy, RecordTy, Tys, no_tys, ty_and, NamedTys, no_named_tys, named_ty_and, type_of, named_types_of}
use Rattle.nv_ast.specs.Tree.{FunTree}
use Rattle.nv_ast.specs.Scope.{Vars, plain_tys}
use Rattle.nv_meaning.specs.Values.{Value, Word, Truth, Tuple, Record, Values, no_values, value_and, NamedValues, no_named_values, named_value_and, Scope, words_of, all_words}
use Rattle.nv_meaning.specs.Running.{Running, Result, Gives, Raises, Halts}
use Rattle.nv_meaning.specs.Meaning.{Calls, function_in}
use Rattle.nv_flatten_values.specs.inner.Whole.{Whole, raised_tys}

-- ---- the type of a value
abbrev mutual
  pub value_ty : Value → Ty
  value_ty (Word w) = WordTy
  value_ty (Truth b) = BoolTy
  value_ty (Tuple vs) = TupleTy (value_tys vs)
  value_ty (Record fs) = RecordTy (named_value_tys fs)

  pub value_tys : Values → Tys
  value_tys no_values = no_tys
  value_tys (value_and v vs) = ty_and (value_ty v) (value_tys vs)

  pub named_value_tys : NamedValues → NamedTys
  named_value_tys no_named_values = no_named_tys
  named_value_tys (named_value_and x v vs) = named_ty_and x (value_ty v) (named_value_tys vs)

-- the types of the variables in scope
abbrev pub scope_tys : Scope → Vars
scope_tys [] = []
scope_tys ((x, v) ∷ scope) = (x, value_ty v) ∷ scope_tys scope

-- ---- all words fit 32 bits
abbrev pub AreWords : List ℕ → Type 0
AreWords ws = All (λ w. w < 2 ^ 32) ws

abbrev pub ScopeWords : Scope → Type 0
ScopeWords [] = ⊤
ScopeWords ((x, v) ∷ scope) = AreWords (words_of v) × ScopeWords scope

-- ---- a result of this type: a value of it, or an exception's values of their types; no value where there is no type
abbrev pub ComesTo : Whole → Option Ty → Result → Type 0
ComesTo w t (Gives v now) = (t ≡ Some (value_ty v)) × AreWords (words_of v) × HasSizes now.packet
ComesTo w t (Raises k vs now) = (raised_tys w k ≡ Some (value_tys vs)) × AreWords (all_words vs) × HasSizes now.packet
ComesTo w t (Halts how now) = ⊤

-- ---- a call of a function of the program with values of its parameters' types
pub record CallsTyped (w : Whole) (call : Calls) : Type 0 where
  pub typed : (f : List ℕ) (g : FunTree) (vs : Values) (now : Running) → function_in w.declared.functions f ≡ Some g
      → value_tys vs ≡ plain_tys (named_types_of w.declared.layouts g.params) → AreWords (all_words vs) → HasSizes now.packet
      → ComesTo w (Some (type_of w.declared.layouts g.result)) (call f vs now)
