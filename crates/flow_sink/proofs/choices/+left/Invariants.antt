use Rattle.flow_sink.proofs.Spine.{Counted}
use Rattle.flow_sink.proofs.choices.+left.Given as goal

abbrev pub decreases-left : goal.decreases-left
decreases-left l = goal.size-left l

abbrev pub invariant-spine : goal.invariant-spine
invariant-spine l = Counted l.most l.n l.t l.cur

abbrev pub decreases-spine : goal.decreases-spine
decreases-spine l = l.n
