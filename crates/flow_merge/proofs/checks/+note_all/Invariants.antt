use Rattle.flow_merge.proofs.Testing.{Noted}
use Rattle.flow_merge.proofs.checks.+note_all.Given as goal

abbrev pub invariant-spine : goal.invariant-spine
invariant-spine l = Noted l.t l.cur l.initial.counts.items l.counts.items
