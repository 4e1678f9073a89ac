-- The labels of a whole as pure data: the trees that stand under their bodies.
use Rattle.std.specs.Prelude.{List, [], ◌∷◌}
use Rattle.ssu_ir.specs.declared.node.SsuLabel.{SsuLabel}
use Rattle.ssu_ir.specs.declared.ssu.Ssu.{Ssu}
use Rattle.ssu_ir.specs.Tree.{Tree, Label, End, Halt}
use Rattle.ssu_ir.specs.Slots.{Placed, placed_in, bare_all, bodies}

-- the trees of the bodies, each node with its number
abbrev pub placed_of : Ssu → List Placed
placed_of s = placed_in s.nodes.slots (bodies s.labels.items)

-- labels over trees, one each
abbrev pub with_bodies : List SsuLabel → List Tree → List Label
with_bodies [] ts = []
with_bodies (l ∷ ls) [] = record { params = l.params.items; body = End (Halt 0 []) } ∷ with_bodies ls []
with_bodies (l ∷ ls) (t ∷ ts) = record { params = l.params.items; body = t } ∷ with_bodies ls ts

abbrev pub labels_view : Ssu → List Label
labels_view s = with_bodies s.labels.items (bare_all (placed_of s))
