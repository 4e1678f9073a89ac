-- Lists of fields as trees. The tree of a list is made from its fields in order, and depends on how many they are alone.
use Rattle.std.specs.Prelude.{ℕ, ◌+◌, ◌==◌, Bool, false, List, [], ◌∷◌, ◌++◌, Option, None, Some, if◌then◌else◌}

-- a field is a pair: the number of its name, and that of its type or form
pub data Row : Type 0 where
  one : (field : ℕ × ℕ) → Row
  both : (left right : Row) → Row

-- the fields in order
abbrev pub leaves : Row → List (ℕ × ℕ)
leaves (one p) = p ∷ []
leaves (both t u) = leaves t ++ leaves u

-- how deep it is along its left edge
abbrev pub depth : Row → ℕ
depth (one p) = 0
depth (both t u) = depth t + 1

-- whether the last of some rows, the first of their list, is as deep as one more
abbrev pub ends_as_deep : List Row → Row → Bool
ends_as_deep [] u = false
ends_as_deep (t ∷ ts) u = depth t == depth u

-- rows, the last of them first, and one more after them, where two that are equally deep become one
abbrev pub carried : List Row → Row → List Row
carried [] u = u ∷ []
carried (t ∷ ts) u = if depth t == depth u then carried ts (both t u) else u ∷ t ∷ ts

-- rows, the last of them first, and one more after them, as one row
abbrev pub hung : List Row → Row → Row
hung [] u = u
hung (t ∷ ts) u = hung ts (both t u)

-- the row of some rows, the last of them first, of a field after them, and of more fields after that
abbrev pub grown : List Row → ℕ × ℕ → List (ℕ × ℕ) → Row
grown ts p [] = hung ts (one p)
grown ts p (q ∷ qs) = grown (carried ts (one p)) q qs

-- what stands under the number of a name, if one of some fields has it
abbrev pub field_with : ℕ → List (ℕ × ℕ) → Option ℕ
field_with n [] = None
field_with n (p ∷ ps) = if p.0 == n then Some p.1 else field_with n ps
