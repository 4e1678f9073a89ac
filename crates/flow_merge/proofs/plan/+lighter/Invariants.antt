use Rattle.std.proofs.Common.{◌≤◌}
use Rattle.flow_ir.specs.declared.flow.Tree.{size-Tree}
use Rattle.flow_merge.proofs.plan.+lighter.Given as goal

abbrev pub invariant-spine : goal.invariant-spine
invariant-spine l = size-Tree l.cur ≤ size-Tree l.t

abbrev pub decreases-spine : goal.decreases-spine
decreases-spine l = size-Tree l.cur

abbrev pub decreases-lighter : goal.decreases-lighter
decreases-lighter l = size-Tree l.t.now
