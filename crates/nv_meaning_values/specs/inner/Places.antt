-- Places of names among those that are declared.
use Rattle.std.specs.Prelude.{ℕ, suc, List, [], ◌∷◌, Option, Some, None, bytes_eq, if◌then◌else◌}

-- the place of the first of this name, counted from i
abbrev pub place_from : ℕ → List ℕ → List (List ℕ) → Option ℕ
place_from i x [] = None
place_from i x (y ∷ ys) = if bytes_eq x y then Some i else place_from (suc i) x ys
