-- What a reader of parts has left.
use Rattle.std.specs.Prelude.{ℕ, List, [], Option, None, Some}
use Rattle.nv_lines.specs.Line.{parts}

-- none, or those of the rest of the line
abbrev pub parts_left : Option (List ℕ) → List (List ℕ)
parts_left None = []
parts_left (Some rest) = parts rest
