use Rattle.flow_words.proofs.Whole.{then_equal}
use Rattle.flow_words.proofs.program.simpler_words.Goals as goal

pub returns-clause-equal : goal.returns-clause-equal
returns-clause-equal c = then_equal _ _ _ _ _ c.in_ok-folded.ensures.equal c.in_ok-folded.ensures.params c.in_ok-sliced.ensures.equal
