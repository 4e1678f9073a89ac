-- The pure forms of trees and labels.
use Rattle.flow_ir.specs.declared.flow.Tree.{Tree}
use Rattle.flow_ir.specs.declared.flow.Tree.TheVariants.{Let', Read', Write', If', Jump, Halt}
use Rattle.flow_ir.specs.declared.flow.Label.{Label}
use Rattle.flow_ir.specs.Tree as pure

abbrev pub tree_view : Tree → pure.Tree
tree_view (Let' x a q t) = pure.Let x a (tree_view t)
tree_view (Read' m xs a q t) = pure.Read m xs.items a (tree_view t)
tree_view (Write' m a bs q t) = pure.Write m a bs.items (tree_view t)
tree_view (If' c a b q t r u) = pure.If c a b (tree_view t) (tree_view u)
tree_view (Jump l bs) = pure.Jump l bs.items
tree_view (Halt e bs) = pure.Halt e bs.items

abbrev pub label_view : Label → pure.Label
label_view l = record { params = l.params.items; body = tree_view l.body }
