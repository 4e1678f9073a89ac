-- Which functions of a program its flat functions are, and in which order they stand.
use Rattle.std.specs.Prelude.{◌≡◌, ℕ, ◌<◌, true, List, Some, slice_get, length}
use Rattle.nv_base.specs.Sets.{is_in}
use Rattle.nv_ast.specs.Faults.{main_name}
use Rattle.nv_ast.specs.Tree.{FunTree, ProgramTree}
use Rattle.nv_meaning.specs.Meaning.{function_in}
use Rattle.flat_ir.specs.declared.flat.FlatFun.{FlatFun}
use Rattle.flat_ir.specs.Reached.{calls}
use Rattle.nv_flatten_values.specs.inner.Bounded.{AreOnce}
use Rattle.nv_flatten_values.specs.inner.Made.{IsMade}
use Rattle.nv_flatten_values.specs.inner.Whole.{Whole, whole_of, group_of}

-- a flat function is that of the program's function with the i-th of these names: it has its parameters, its result and its group, and does
-- what its body does, where each call by number is one by name
pub record IsFunctionOf (w : Whole) (names : List (List ℕ)) (i : ℕ) (fun : FlatFun) : Type 0 where
  pub name : List ℕ
  pub named : slice_get names i ≡ Some name
  pub source : FunTree
  pub found : function_in w.declared.functions name ≡ Some source
  pub made : IsMade w names source fun
  pub group : group_of w name ≡ Some fun.group

-- the first flat function is that of main, and each is that of another function of the program
pub record AreFunctionsOf (t : ProgramTree) (funs : List FlatFun) : Type 0 where
  pub names : List (List ℕ)
  pub first : slice_get names 0 ≡ Some main_name
  pub once : AreOnce names
  pub each : (i : ℕ) (fun : FlatFun) → slice_get funs i ≡ Some fun → IsFunctionOf (whole_of t) names i fun

-- each but the first is called by one that stands before it
abbrev pub AreCalledBefore : List FlatFun → Type 0
AreCalledBefore funs = (i : ℕ) → 0 < i → i < length funs → (j : ℕ) × (fun : FlatFun) × (j < i) × (slice_get funs j ≡ Some fun) × (is_in i (calls fun.body) ≡ true)
