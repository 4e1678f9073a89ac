use Rattle.std.proofs.Common.{◌≡◌, length}
use Rattle.nova_replay.specs.Replaying.{one_more_at}
use Rattle.nova_replay.proofs.counts.raise.Given as goal

-- so many counts, of which one more at the place is what it was at first
abbrev pub invariant-loop : goal.invariant-loop
invariant-loop l = (length l.counts.items ≡ l.counter) × (one_more_at l.place l.counts.items ≡ one_more_at l.place l.initial.counts.items)
