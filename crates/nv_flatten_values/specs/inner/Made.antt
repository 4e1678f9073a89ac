-- Flat functions as what is made of a program's.
use Rattle.std.specs.Prelude.{◌≡◌, ℕ, ◌≤◌, List, [], Option, Some, None, length, slice_get}
use Rattle.nv_ast.specs.Tree.{FunTree}
use Rattle.nv_ast.specs.Types.{NamedTys, type_of, named_types_of, words, total_named_words}
use Rattle.nv_meaning.specs.Meaning.{function_in}
use Rattle.flat_ir.specs.declared.flat.FlatFun.{FlatFun}
use Rattle.nv_flatten_values.specs.inner.Symbols.{Symbol, SymbolScope, named_fresh, numbers_from, params_bound}
use Rattle.nv_flatten_values.specs.inner.Whole.{Whole, group_of}
use Rattle.nv_flatten_values.specs.inner.Simulation.{Names, Extends, IsEnd}
use Rattle.flat_ir.specs.Reached.{AreReached}
use Rattle.nv_flatten_values.specs.inner.Well.{IsWellEnd, IsWellFun}

-- the types of a function's parameters, with their names
abbrev pub params_in : Whole → FunTree → NamedTys
params_in w g = named_types_of w.declared.layouts g.params

-- the scope in which a body begins: its parameters, of the first variables
abbrev pub entry : Whole → FunTree → SymbolScope
entry w g = params_bound (named_fresh 0 (params_in w g)) []

-- a flat function has its parameters' words as its first variables, and its code ends with what the function's body comes to; of the functions that it calls, the names are among these
pub record IsMade (w : Whole) (all : Names) (g : FunTree) (fun : FlatFun) : Type 0 where
  pub names : Names
  pub more : Extends names all
  pub low : ℕ
  pub high : ℕ
  pub form : Option Symbol
  pub params : fun.params.items ≡ numbers_from 0 (total_named_words (params_in w g))
  pub behind : low ≡ total_named_words (params_in w g)
  pub end : IsEnd w names low high (entry w g) g.body fun.body form
  pub old : Names
  pub well : IsWellEnd w old names low high (entry w g) g.body fun.body
  pub results : fun.results ≡ words (type_of w.declared.layouts g.result)

-- it is in the group of the function of this name; where there is no such function, it is well formed by itself
pub record IsPlaced (w : Whole) (f : List ℕ) (fun : FlatFun) : Type 0 where
  pub group : (g : FunTree) (n : ℕ) → function_in w.declared.functions f ≡ Some g → group_of w f ≡ Some n → fun.group ≡ n
  pub absent : function_in w.declared.functions f ≡ None → (names : Names) → IsWellFun w names fun

-- each flat function is in the group of its number's name
pub record ArePlaced (w : Whole) (all : Names) (funs : List FlatFun) : Type 0 where
  pub by : (i : ℕ) (f : List ℕ) (fun : FlatFun) → slice_get all i ≡ Some f → slice_get funs i ≡ Some fun → IsPlaced w f fun

-- each flat function is made of the function with its number's name
pub record AreMade (w : Whole) (all : Names) (funs : List FlatFun) : Type 0 where
  pub by : (i : ℕ) (f : List ℕ) (g : FunTree) (fun : FlatFun) → slice_get all i ≡ Some f → function_in w.declared.functions f ≡ Some g → slice_get funs i ≡ Some fun → IsMade w all g fun

-- the same, and each function whose name has a number is there
pub record AllMade (w : Whole) (all : Names) (funs : List FlatFun) : Type 0 where
  pub by : (i : ℕ) (f : List ℕ) (g : FunTree) → slice_get all i ≡ Some f → function_in w.declared.functions f ≡ Some g → (fun : FlatFun) × (slice_get funs i ≡ Some fun) × IsMade w all g fun

-- flat functions of a program's functions, the first one of the function of this name, and each of them is called from that one on
pub record IsComplete (w : Whole) (main : List ℕ) (funs : List FlatFun) : Type 0 where
  pub all : Names
  pub first : slice_get all 0 ≡ Some main
  pub made : AllMade w all funs
  pub many : length funs ≤ length all
  pub placed : ArePlaced w all funs
  pub reached : AreReached funs 0
