-- Things by name.
use Rattle.std.specs.Prelude.{ℕ, List, [], ◌∷◌}
use Rattle.std.specs.Borrow.{Bor}

-- the names, in place of the references to them
abbrev pub named : {T : Type 0} → List (Bor (List ℕ) × T) → List (List ℕ × T)
named [] = []
named (e ∷ es) = (e.0.now, e.1) ∷ named es

abbrev pub plain_names : List (Bor (List ℕ)) → List (List ℕ)
plain_names [] = []
plain_names (x ∷ xs) = x.now ∷ plain_names xs

-- what stands under the names
abbrev pub bound_types : List (List ℕ × ℕ) → List ℕ
bound_types [] = []
bound_types (e ∷ es) = e.1 ∷ bound_types es
