use Rattle.std.proofs.Common.{◌≤◌}
use Rattle.flow_literals.proofs.Walks.{Above}
use Rattle.flow_literals.proofs.names.+above_tree.Given as goal

abbrev pub invariant-spine : goal.invariant-spine
invariant-spine l = (l.n ≤ l.most) × Above l.most l.t l.cur
