use Rattle.flow_literals.proofs.Walks.{Back}
use Rattle.flow_literals.proofs.turns.+goes_back.Given as goal

abbrev pub invariant-spine : goal.invariant-spine
invariant-spine l = Back l.l l.t l.cur
