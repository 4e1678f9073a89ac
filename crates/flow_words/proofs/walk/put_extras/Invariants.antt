use Rattle.flow_ir.specs.Tree.{Tree}
use Rattle.flow_words.specs.Bits.{IsNeeded}
use Rattle.flow_words.specs.inner.Placed.{place, Goes}
use Rattle.flow_words.proofs.walk.put_extras.Given as goal

abbrev pub invariant-loop-q : goal.invariant-loop-q
invariant-loop-q l = (t : Tree) → Goes IsNeeded (place l.initial.state l.initial.saved.items l.initial.steps.items) t (place l.state l.saved.items l.steps.items) t
