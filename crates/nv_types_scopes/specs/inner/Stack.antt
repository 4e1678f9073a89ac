-- Variables in a stack: each with its type's number and that of the variable that it hides.
use Rattle.std.specs.Prelude.{◌≡◌, ℕ, List, [], ◌∷◌, map, reverse, bytes_eq}
use Rattle.std.specs.Map.{lookup}
use Rattle.std.specs.Borrow.{Bor}
use Rattle.nv_ast.specs.Tests.{look_up}
use Rattle.nv_types_scopes.specs.declared.scope.Binding.{Binding}

abbrev pub bound_pair : Binding → List ℕ × ℕ
bound_pair b = (b.name.now, b.bound)

-- the variables with their types, the newest first
abbrev pub bindings : List Binding → List (List ℕ × ℕ)
bindings stack = map bound_pair (reverse stack)

-- from the newest to the oldest, each knows what it hides
abbrev pub Hides : List Binding → Type 0
Hides [] = Unit {0}
Hides (b ∷ older) = (b.hidden ≡ look_up b.name.now (map bound_pair older)) × Hides older

-- what is seen is the newest variable of each name
pub record IsScope (stack : List Binding) (seen : List (Bor (List ℕ) × ℕ)) : Type 0 where
  pub hides : Hides (reverse stack)
  pub seen_first : (x : List ℕ) → lookup (λ k. bytes_eq x k.now) seen ≡ look_up x (bindings stack)
