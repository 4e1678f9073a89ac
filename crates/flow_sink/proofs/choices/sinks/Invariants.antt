use Rattle.flow_sink.proofs.Spine.{Asked}
use Rattle.flow_sink.proofs.choices.sinks.Given as goal

abbrev pub invariant-spine : goal.invariant-spine
invariant-spine l = Asked l.x l.t l.cur
