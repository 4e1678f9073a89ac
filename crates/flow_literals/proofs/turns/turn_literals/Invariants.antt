use Rattle.flow_literals.proofs.Walks.{Turn}
use Rattle.flow_literals.proofs.turns.turn_literals.Given as goal

abbrev pub invariant-spine : goal.invariant-spine
invariant-spine l = Turn l.l l.t l.cur l.found.items
