use Rattle.std.proofs.Common.{◌∙◌}
use Rattle.flow_words.proofs.Going.{restored_one}
use Rattle.flow_words.proofs.state.restore.Goals as goal

pub loop-s-preserved : goal.loop-s-preserved
loop-s-preserved c = restored_one _ _ c.in-Some.s _ _ c.in-Some.ensures.items c.in_ok-set.ensures ∙ c.loop-s.invariant
