use Rattle.std.proofs.Common.{[]}
use Rattle.flow_words.specs.inner.Ruled.{rule}
use Rattle.flow_words.specs.inner.Placed.{place}
use Rattle.flow_words.proofs.Going.{Along}
use Rattle.flow_words.proofs.walk.+reduced.Given as goal

abbrev pub invariant-spine : goal.invariant-spine
invariant-spine l = Along (rule l.rules) (place l.initial.state [] []) l.t (place l.state l.saved.items l.steps.items) l.cur
