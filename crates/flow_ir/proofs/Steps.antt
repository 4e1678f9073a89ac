-- Steps before steps.
use Rattle.std.proofs.Common.{◌≡◌, List, [], ◌∷◌, ◌++◌, refl, sym, ap, ◌∙◌}
use Rattle.flow_ir.specs.declared.spine.Step.{Step}
use Rattle.flow_ir.specs.Tree.{Tree}
use Rattle.flow_ir.specs.Spine.{put, put_all}

pub put_all-append : (a b : List Step) (t : Tree) → put_all (a ++ b) t ≡ put_all a (put_all b t)
put_all-append [] b t = refl
put_all-append (s ∷ a) b t = ap (put s) (put_all-append a b t)

-- the last of the steps, put before what follows
pub put_last : (ss more : List Step) (s : Step) (t u : Tree) → ss ≡ more ++ s ∷ [] → u ≡ put s t → put_all more u ≡ put_all ss t
put_last ss more s t u e put = ap (put_all more) put ∙ sym (put_all-append more (s ∷ []) t) ∙ ap (λ l. put_all l t) (sym e)
