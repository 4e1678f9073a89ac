use Rattle.std.proofs.Common.{arith}
use Rattle.nova_show.specs.Kinds.{cost_of}
use Rattle.nova_show.proofs.Costs.{cost-done, even-cost}
use Rattle.nova_show.proofs.counts.counts_of.Goals as goal

pub returns-clause-cost : goal.returns-clause-cost
returns-clause-cost c = λ starts.
    even-cost c.args.list.now starts (cost_of c.loop-i.counts)
    (cost-done c.args.list.now c.loop-i.i-index (cost_of c.loop-i.counts) (omega arith) c.loop-i.invariant.2)
