use Rattle.std.proofs.Common.{subst}
use Rattle.flow_words.specs.Bits.{IsNeeded}
use Rattle.flow_words.specs.Tables.{look}
use Rattle.flow_words.proofs.Going.{go_on, go_extra}
use Rattle.flow_words.proofs.walk.put_extras.Goals as goal

pub loop-q-preserved : goal.loop-q-preserved
loop-q-preserved c =
    λ t. go_on (c.loop-q.invariant t)
    (go_extra c.in_ok-put_extra.field-0 c.settled-r.result t c.in_ok-put_extra.ensures (subst (λ l. IsNeeded (look l) c.settled-r.result) c.deref.ensures.value c.settled-r.ensures.needed))
