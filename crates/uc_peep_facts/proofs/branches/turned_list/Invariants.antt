use Rattle.std.proofs.Common.{length}
use Rattle.uc_peep.specs.Becomes.{IsKept}
use Rattle.uc_peep_facts.specs.Turned.{IsTurned}
use Rattle.uc_peep_facts.proofs.branches.turned_list.Given as goal

abbrev pub invariant-rounds : goal.invariant-rounds
invariant-rounds l = IsKept l.fn.code.items l.fn.starts.items l.now.code.items l.now.starts.items × IsTurned l.fn.code.items l.now.code.items

abbrev pub decreases-rounds : goal.decreases-rounds
decreases-rounds l = length l.now.code.items
