-- Terms as steps and an end.
use Rattle.std.specs.Prelude.{List, [], ◌∷◌}
use Rattle.cps_ir.specs.declared.spine.Step.{Step}
use Rattle.cps_ir.specs.declared.spine.Step.TheVariants.{Let, Read, Write, If, Label, Labels}
use Rattle.cps_ir.specs.View.{term_view, labels_view}
use Rattle.cps_ir.specs.Term as pure

-- a step before a term
abbrev pub put : Step → pure.Term → pure.Term
put (Let x a) t = pure.Let x a t
put (Read m xs a) t = pure.Read m xs.items a t
put (Write m a bs) t = pure.Write m a bs.items t
put (If c a b u) t = pure.If c a b (term_view u) t
put (Label l xs u) t = pure.Fix (pure.label l xs.items t pure.none) (term_view u)
put (Labels ls) t = pure.Fix (labels_view ls.items) t

abbrev pub put_all : List Step → pure.Term → pure.Term
put_all [] t = t
put_all (s ∷ ss) t = put s (put_all ss t)
