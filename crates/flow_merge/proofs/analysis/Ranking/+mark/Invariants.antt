use Rattle.std.proofs.Common.{◌≤◌}
use Rattle.flow_ir.specs.declared.flow.Tree.{size-Tree}
use Rattle.flow_merge.proofs.analysis.Ranking.+mark.Given as goal

abbrev pub invariant-spine : goal.invariant-spine
invariant-spine l = size-Tree l.cur ≤ size-Tree l.t
