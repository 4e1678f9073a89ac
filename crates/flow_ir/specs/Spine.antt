-- Trees as steps and an end.
use Rattle.std.specs.Prelude.{List, [], ◌∷◌}
use Rattle.flow_ir.specs.declared.spine.Step.{Step}
use Rattle.flow_ir.specs.declared.spine.Step.TheVariants.{Let, Read, Write, If}
use Rattle.flow_ir.specs.View.{tree_view}
use Rattle.flow_ir.specs.Tree as pure

-- a step before a tree
abbrev pub put : Step → pure.Tree → pure.Tree
put (Let x a) t = pure.Let x a t
put (Read m xs a) t = pure.Read m xs.items a t
put (Write m a bs) t = pure.Write m a bs.items t
put (If c a b u) t = pure.If c a b (tree_view u) t

abbrev pub put_all : List Step → pure.Tree → pure.Tree
put_all [] t = t
put_all (s ∷ ss) t = put s (put_all ss t)
