use Rattle.std.proofs.Common.{rules, ◌≡◌, [], ◌∷◌, sym}
use Rattle.zo_cert_tree.specs.Certificate.{leaf}
use Rattle.zo_cert_tree.specs.declared.cert.Claim.TheVariants.{Least}
use Rattle.zo_solve.proofs.RootLeaf.{root_proves}
use Rattle.zo_solve.proofs.bound.lower_bound.Goals as goal

pub returns : goal.returns
returns c =
    let e : c.push.new.self.items ≡ c.root_bound-least.result.1 ∷ [] = search rules in
    (leaf c.root_bound-least.result.1, sym e, root_proves c.args.z.now (Least c.root_bound-least.result.0) c.root_bound-least.result.1 c.root_bound-least.ensures)
