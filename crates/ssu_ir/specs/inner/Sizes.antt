-- The part of a size that the labels themselves have.
use Rattle.std.specs.Prelude.{ℕ, ◌+◌, List, [], ◌∷◌, length}
use Rattle.ssu_ir.specs.declared.node.SsuLabel.{SsuLabel}

-- an entry for each label, and its parameters
abbrev pub entries_size : List SsuLabel → ℕ
entries_size [] = 0
entries_size (l ∷ ls) = 1 + length l.params.items + entries_size ls
