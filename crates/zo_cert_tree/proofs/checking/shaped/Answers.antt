use Rattle.std.proofs.Common.{◌≡◌, List, [], ◌∷◌, Bool, Option, subst, sym, replicate, None, length, ◌∙◌, ap}
use Rattle.std.specs.Prelude.{IsSome}
use Rattle.zo_cert_tree.specs.Certificate.{IsWellNamed, IsTreeWith, IsShaped, unfixed}
use Rattle.zo_cert_tree.specs.inner.Path.{Pending}
use Rattle.zo_cert_tree.specs.inner.Walk.{Walks}
use Rattle.zo_cert_tree.specs.declared.cert.CertNode.{CertNode}
use Rattle.zo_cert_tree.proofs.Walk.{walks_tree, tree_walks}
use Rattle.zo_cert_tree.proofs.checking.shaped.Goals as goal

pub returns-clause-exact : goal.returns-clause-exact
returns-clause-exact c =
    let costs : c.w.inside.path.costs ≡ c.args.z.now.costs.items = c.w.view_is ∙ c.requires.work in
    let begun : c.restart.new.self.fixings ≡ unfixed c.args.z.now ∷ [] = ap (λ (p : Pending). p.fixings) c.restart.ensures ∙ ap (λ cs. replicate (length cs) None ∷ []) costs in
    let whole : c.deref.result.now ≡ c.args.c.now.nodes.items = c.deref.ensures.value in
    let P : List (Option Bool) → CertNode → Type 0 = IsWellNamed c.args.z.now in
    let there : IsSome c.walk_shape.result → IsTreeWith (IsShaped c.args.z.now) c.args.c.now =
    λ yes. walks_tree P (unfixed c.args.z.now) c.args.c.now.nodes.items (subst (λ ns. Walks P (unfixed c.args.z.now ∷ []) ns) whole (subst (λ fs. Walks P fs c.deref.result.now) begun (c.walk_shape.ensures.walks.0 yes))) in
    let back : IsTreeWith (IsShaped c.args.z.now) c.args.c.now → IsSome c.walk_shape.result =
    λ p. c.walk_shape.ensures.walks.1 (subst (λ fs. Walks P fs c.deref.result.now) (sym begun) (subst (λ ns. Walks P (unfixed c.args.z.now ∷ []) ns) (p.1 ∙ sym whole) (tree_walks P p.0 (unfixed c.args.z.now) p.2))) in
    (there, back)
