use Rattle.flow_merge.proofs.Asking.{Sought}
use Rattle.flow_merge.proofs.params_checks.+is_found.Given as goal

abbrev pub invariant-spine : goal.invariant-spine
invariant-spine l = Sought l.ranks l.rank l.x l.t l.cur
