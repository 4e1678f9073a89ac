-- How large a flow is: labels, jumps (and ends), other nodes, and the words that the other nodes define and use.
use Rattle.std.specs.Prelude.{◌+◌, List, [], ◌∷◌, length}
use Rattle.nv_base.specs.Measures.{Bulk, nothing, a_label, a_jump, a_node, both}
use Rattle.flow_ir.specs.Tree.{Tree, Let, Read, Write, If, Jump, Halt, Label}

-- a `Let` counts two operands, since it may get another primitive
abbrev pub tree_bulk : Tree → Bulk
tree_bulk (Let x a t) = both (a_node 1 2) (tree_bulk t)
tree_bulk (Read m xs a t) = both (a_node (length xs) 1) (tree_bulk t)
tree_bulk (Write m a bs t) = both (a_node 0 (1 + length bs)) (tree_bulk t)
tree_bulk (If c a b t u) = both (a_node 0 2) (both (tree_bulk t) (tree_bulk u))
tree_bulk (Jump l bs) = a_jump
tree_bulk (Halt e bs) = a_jump

abbrev pub bulk : List Label → Bulk
bulk [] = nothing
bulk (l ∷ ls) = both (both a_label (tree_bulk l.body)) (bulk ls)
