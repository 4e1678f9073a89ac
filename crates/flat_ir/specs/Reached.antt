-- Which functions of a program are reached, and how many words they take.
use Rattle.std.specs.Prelude.{◌≡◌, ℕ, ◌<◌, true, List, [], ◌∷◌, ◌++◌, Option, Some, None, slice_get, length}
use Rattle.flat_ir.specs.declared.flat.Flat.{Flat}
use Rattle.flat_ir.specs.declared.flat.Flat.TheVariants.{Let', Fetch', Store', If', Bind', Call, Raise, Try', Give}
use Rattle.flat_ir.specs.declared.flat.FlatFun.{FlatFun}
use Rattle.nv_base.specs.Sets.{is_in}

-- how many words a function of a program takes
abbrev pub params_of : Option FlatFun → ℕ
params_of (Some f) = length f.params.items
params_of None = 0

abbrev pub params_in : List FlatFun → ℕ → ℕ
params_in funs i = params_of (slice_get funs i)

-- the functions that code calls
abbrev pub calls : Flat → List ℕ
calls (Let' x a q t) = calls t
calls (Fetch' m xs a q t) = calls t
calls (Store' m a bs q t) = calls t
calls (If' c a b q t r u) = calls t ++ calls u
calls (Bind' xs q t r u) = calls t ++ calls u
calls (Call f bs) = f ∷ []
calls (Raise k bs) = []
calls (Try' q t k xs r u) = calls t ++ calls u
calls (Give bs) = []

-- a function is called from main on: it is main, or a function that is reached calls it
pub data Reached (funs : List FlatFun) (main : ℕ) : ℕ → Type 0 where
  itself : Reached funs main main
  called : (i j : ℕ) (f : FlatFun) → Reached funs main i → slice_get funs i ≡ Some f → is_in j (calls f.body) ≡ true → Reached funs main j

-- all functions of a program are reached
abbrev pub AreReached : List FlatFun → ℕ → Type 0
AreReached funs main = (i : ℕ) → i < length funs → Reached funs main i
