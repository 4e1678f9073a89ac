use Rattle.std.proofs.Common.{◌≡◌, List, Option, Bool, None, length, replicate, sym, subst, rules}
use Rattle.zo_cert_tree.specs.inner.Path.{KeepsPlace}
use Rattle.zo_cert_tree.proofs.Paths.{begins}
use Rattle.zo_cert_tree.proofs.path.Path.restart.Goals as goal

pub invariant_of-self : goal.invariant_of-self
invariant_of-self c =
    let places : c.fill.new.self.items ≡ replicate (length c.self.inside.costs.items) None = search rules in
    let n : c.len-self-inside.result ≡ length c.self.inside.costs.items = search rules in
    subst (λ (f : List (Option Bool)). KeepsPlace c.self.inside.costs.items f c.self.inside.stack.items c.len-self-inside.result 0) (sym places) (begins c.self.inside.costs.items c.self.inside.stack.items c.len-self-inside.result c.self.invariant.costs_fit c.self.invariant.room n)
