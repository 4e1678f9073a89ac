-- Steps before steps.
use Rattle.std.proofs.Common.{◌≡◌, List, [], ◌∷◌, ◌++◌, refl, sym, ap, subst, ◌∙◌}
use Rattle.flat_ir.specs.declared.flat.Flat.{Flat}
use Rattle.flat_ir.specs.declared.spine.Step.{Step}
use Rattle.flat_ir.specs.Meaning.{Calls, does}
use Rattle.flat_ir.specs.Spine.{Act, step_does, steps_do, IsNode, AreNodes, IsPut}

pub steps_do-append : (call : Calls) (a b : List Step) (rest : Act) → steps_do call (a ++ b) rest ≡ steps_do call a (steps_do call b rest)
steps_do-append call [] b rest = refl
steps_do-append call (s ∷ a) b rest = ap (step_does call s) (steps_do-append call a b rest)

-- the last of the steps, put before the code
pub joined_more : (ss more : List Step) (s : Step) (t u : Flat) (call : Calls) → ss ≡ more ++ s ∷ [] → IsPut s t u → steps_do call more (does call u) ≡ steps_do call ss (does call t)
joined_more ss more s t u call e put =
    ap (steps_do call more) (put.by call) ∙ sym (steps_do-append call more (s ∷ []) (does call t)) ∙ ap (λ l. steps_do call l (does call t)) (sym e)

nodes-last : (more : List Step) (s : Step) (t u w : Flat) → IsNode s t u → AreNodes more u w → AreNodes (more ++ s ∷ []) t w
nodes-last [] s t u w node h = (t, refl, subst (IsNode s t) (sym h) node)
nodes-last (x ∷ more) s t u w node h = (h.0, nodes-last more s t u h.0 node h.1, h.2)

-- the same for the nodes
pub nodes_more : (ss more : List Step) (s : Step) (t u w : Flat) → ss ≡ more ++ s ∷ [] → IsPut s t u → AreNodes more u w → AreNodes ss t w
nodes_more ss more s t u w e put h = subst (λ l. AreNodes l t w) (sym e) (nodes-last more s t u w put.node h)
