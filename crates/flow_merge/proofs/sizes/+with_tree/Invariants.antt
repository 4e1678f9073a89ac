use Rattle.flow_merge.proofs.Counting.{Counted}
use Rattle.flow_merge.proofs.sizes.+with_tree.Given as goal

abbrev pub invariant-spine : goal.invariant-spine
invariant-spine l = Counted l.fn.s l.t l.cur l.now
