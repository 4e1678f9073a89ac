use Rattle.std.proofs.Common.{length}
use Rattle.uc_peep.specs.Becomes.{IsKept}
use Rattle.uc_peep.specs.Rewrites.{Rewrites}
use Rattle.uc_peep.proofs.peephole.optimize_list.Given as goal

abbrev pub invariant-rounds : goal.invariant-rounds
invariant-rounds g l = IsKept l.fn.code.items l.fn.starts.items l.now.code.items l.now.starts.items × Rewrites (g.R.Window.answers l.fn.r) l.fn.code.items l.now.code.items

abbrev pub decreases-rounds : goal.decreases-rounds
decreases-rounds g l = length l.now.code.items
