use Rattle.flow_merge.proofs.Testing.{Asked}
use Rattle.flow_merge.proofs.checks.+is_undecided.Given as goal

abbrev pub invariant-spine : goal.invariant-spine
invariant-spine l = Asked l.t l.cur
