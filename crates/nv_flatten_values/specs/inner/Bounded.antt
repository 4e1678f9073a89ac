-- Flat functions of which it is known how wide and how large they are.
use Rattle.std.specs.Prelude.{◌≡◌, ℕ, List, Some, slice_get}
use Rattle.nv_ast.specs.Tree.{FunTree}
use Rattle.nv_meaning.specs.Meaning.{function_in}
use Rattle.flat_ir.specs.declared.flat.FlatFun.{FlatFun}
use Rattle.nv_flatten_values.specs.inner.Whole.{Whole}
use Rattle.nv_flatten_values.specs.inner.Simulation.{Names}
use Rattle.nv_flatten_values.specs.inner.Made.{IsComplete}
use Rattle.nv_flatten_values.specs.inner.Narrow.{AreNarrowFuns}
use Rattle.nv_flatten_values.specs.inner.Small.{IsSmallFun}

-- no name has two numbers
abbrev pub AreOnce : Names → Type 0
AreOnce names = (i j : ℕ) (f : List ℕ) → slice_get names i ≡ Some f → slice_get names j ≡ Some f → i ≡ j

-- where a number's name is that of a function, the flat function is within its size
pub record AreSmallFound (w : Whole) (all : Names) (funs : List FlatFun) : Type 0 where
  pub by : (i : ℕ) (f : List ℕ) (g : FunTree) (fun : FlatFun) → slice_get all i ≡ Some f → function_in w.declared.functions f ≡ Some g → slice_get funs i ≡ Some fun → IsSmallFun w all f g fun

-- flat functions of a program's functions, the first one of the function of this name, with bounds
pub record IsBounded (w : Whole) (main : List ℕ) (funs : List FlatFun) : Type 0 where
  pub complete : IsComplete w main funs
  pub once : AreOnce complete.all
  pub narrow : AreNarrowFuns w complete.all funs
  pub small : AreSmallFound w complete.all funs
