-- How many words a flow wants at once: the greatest width of a place. A width counts the different live variables and, of a node, its
-- operands, literals among them, with 1 for the second half of a literal; a `Let` counts two operands, since it may get another primitive.
use Rattle.std.specs.Prelude.{ℕ, max, List, [], ◌∷◌, ◌++◌, length}
use Rattle.nv_base.specs.Words.{atom_vars, prim_vars}
use Rattle.nv_base.specs.Sets.{different, without, all_vars}
use Rattle.nv_base.specs.Measures.{operands_wide, let_wide, entry_wide}
use Rattle.flow_ir.specs.Tree.{Tree, Let, Read, Write, If, Jump, Halt, Label}

-- the live variables where a tree begins: those that it uses and doesn't define
abbrev pub live : Tree → List ℕ
live (Let x a t) = prim_vars a ++ without (live t) (x ∷ [])
live (Read m xs a t) = atom_vars a ++ without (live t) xs
live (Write m a bs t) = all_vars (a ∷ bs) ++ live t
live (If c a b t u) = all_vars (a ∷ b ∷ []) ++ (live t ++ live u)
live (Jump l bs) = all_vars bs
live (Halt e bs) = all_vars bs

-- all variables that a tree uses, its own among them
abbrev pub uses : Tree → List ℕ
uses (Let x a t) = prim_vars a ++ uses t
uses (Read m xs a t) = atom_vars a ++ uses t
uses (Write m a bs t) = all_vars (a ∷ bs) ++ uses t
uses (If c a b t u) = all_vars (a ∷ b ∷ []) ++ (uses t ++ uses u)
uses (Jump l bs) = all_vars bs
uses (Halt e bs) = all_vars bs

abbrev pub tree_wide : Tree → ℕ
tree_wide (Let x a t) = max (let_wide (prim_vars a ++ without (live t) (x ∷ []))) (tree_wide t)
tree_wide (Read m xs a t) = max (max (operands_wide (without (live t) xs) (a ∷ [])) (different (xs ++ live t))) (tree_wide t)
tree_wide (Write m a bs t) = max (operands_wide (live t) (a ∷ bs)) (tree_wide t)
tree_wide (If c a b t u) = max (operands_wide (live t ++ live u) (a ∷ b ∷ [])) (max (tree_wide t) (tree_wide u))
tree_wide (Jump l bs) = operands_wide [] bs
tree_wide (Halt e bs) = operands_wide [] bs

-- a label begins with all its parameters, used or not
abbrev pub label_wide : Label → ℕ
label_wide l = max (entry_wide [] (length l.params)) (tree_wide l.body)

abbrev pub wide : List Label → ℕ
wide [] = 0
wide (l ∷ ls) = max (label_wide l) (wide ls)
