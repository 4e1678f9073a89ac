use Rattle.nova_middle.proofs.SimpleFlows.{LeftTo}
use Rattle.nova_middle.proofs.simple.+is_simple.Given as goal

abbrev pub invariant-spine : goal.invariant-spine
invariant-spine l = LeftTo l.t l.cur
