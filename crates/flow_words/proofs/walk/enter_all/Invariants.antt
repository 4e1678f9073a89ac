use Rattle.std.proofs.Common.{take, []}
use Rattle.flow_words.specs.inner.Placed.{place, AreEntered}
use Rattle.flow_words.proofs.walk.enter_all.Given as goal

abbrev pub invariant-loop-x : goal.invariant-loop-x
invariant-loop-x l = AreEntered (take l.x-index l.xs) (place l.initial.state l.initial.saved.items []) (place l.state l.saved.items [])
