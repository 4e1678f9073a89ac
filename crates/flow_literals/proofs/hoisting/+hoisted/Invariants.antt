use Rattle.flow_literals.specs.inner.Hoisted.{heads_of, held}
use Rattle.flow_literals.proofs.Walks.{Hoist}
use Rattle.flow_literals.proofs.hoisting.+hoisted.Given as goal

abbrev pub invariant-spine : goal.invariant-spine
invariant-spine l = Hoist (heads_of l.table) (held l.row l.names) l.t l.cur l.steps.items
