use Rattle.flow_sink.proofs.Spine.{none_left}
use Rattle.flow_sink.proofs.choices.+left.Goals as goal

pub returns-then-n-eq0 : goal.returns-then-n-eq0
returns-then-n-eq0 t c = none_left c.spine.invariant c.if-n-eq0.true
