-- How lists of words are spelled in memory and outcome texts.
use Rattle.std.specs.Prelude.{ℕ, List, [], ◌∷◌}
use Rattle.nv_lines.specs.Number.{SpellsWord}

-- each part is eight digits, of either case, that write the word at its place
abbrev pub SpellWords : List (List ℕ) → List ℕ → Type 0
SpellWords [] [] = Unit {0}
SpellWords (p ∷ ps) (w ∷ ws) = SpellsWord p w × SpellWords ps ws
SpellWords [] (w ∷ ws) = ⊥
SpellWords (p ∷ ps) [] = ⊥
