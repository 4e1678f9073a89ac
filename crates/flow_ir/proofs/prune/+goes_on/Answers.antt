use Rattle.std.proofs.Common.{ap}
use Rattle.flow_ir.specs.View.{tree_view}
use Rattle.flow_ir.specs.inner.Pruned.{goes_on}
use Rattle.flow_ir.proofs.prune.+goes_on.Goals as goal

pub returns-in-Jump : goal.returns-in-Jump
returns-in-Jump t c = let e = ap (λ v. goes_on c.args.out.now (tree_view v)) c.in-Jump.is in cc
