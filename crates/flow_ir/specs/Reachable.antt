-- Labels that the first one leads to.
use Rattle.std.specs.Prelude.{◌≡◌, ◌<◌, ◌⊎◌, ℕ, List, Some, length, slice_get}
use Rattle.flow_ir.specs.Tree.{Tree, Let, Read, Write, If, Jump, Halt, Label}

-- an arm of a tree ends with a jump to this label
abbrev pub GoesTo : Tree → ℕ → Type 0
GoesTo (Let x a t) m = GoesTo t m
GoesTo (Read x xs a t) m = GoesTo t m
GoesTo (Write x a bs t) m = GoesTo t m
GoesTo (If c a b t u) m = GoesTo t m ⊎ GoesTo u m
GoesTo (Jump l bs) m = m ≡ l
GoesTo (Halt e bs) m = ⊥

-- label 0 leads to a label by jumps, one after the other
pub data IsReachable (labels : List Label) : ℕ → Type 0 where
  first : IsReachable labels 0
  jumped : (l m : ℕ) (from : Label) → IsReachable labels l → slice_get labels l ≡ Some from → GoesTo from.body m → IsReachable labels m

-- so to each
abbrev pub AreReachable : List Label → Type 0
AreReachable labels = (l : ℕ) → l < length labels → IsReachable labels l
