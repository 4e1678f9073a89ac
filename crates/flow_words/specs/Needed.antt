-- Labels in which each operation is needed.
use Rattle.std.specs.Prelude.{All, List}
use Rattle.flow_ir.specs.Tree.{Label}
use Rattle.flow_words.specs.Bits.{IsNeeded}
use Rattle.flow_words.specs.Definitions.{EachOf}

-- no operation has the bits of an operand of its own, by what is known above it
abbrev pub AreNeeded : List Label → Type 0
AreNeeded ls = All (EachOf IsNeeded) ls
