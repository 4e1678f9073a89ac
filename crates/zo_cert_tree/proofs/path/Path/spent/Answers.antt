use Rattle.std.proofs.Common.{arith}
use Rattle.zo_cert_tree.proofs.Paths.{costs_small}
use Rattle.zo_cert_tree.specs.Fixing.{ones}
use Rattle.zo_cert_tree.proofs.path.Path.spent.Goals as goal

pub returns-clause-small : goal.returns-clause-small
returns-clause-small c = omega (arith, c.self.invariant.spent_is, costs_small c.self.inside.costs.items (ones c.self.inside.fixed.at.items) c.self.invariant.costs_fit)
