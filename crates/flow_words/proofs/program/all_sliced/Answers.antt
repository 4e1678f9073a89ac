use Rattle.flow_words.specs.Bits.{IsNeeded}
use Rattle.flow_words.proofs.Whole.{reduced_next}
use Rattle.flow_words.proofs.program.all_sliced.Goals as goal

pub loop-l-preserved : goal.loop-l-preserved
loop-l-preserved c = reduced_next IsNeeded c.args.labels.now c.loop-l.l-index _ c.l-item.result c.in_ok-label_sliced.field-0 c.loop-l.v.items _ c.loop-l-test.true c.l-item.is c.loop-l.invariant c.in_ok-label_sliced.ensures c.in_ok-push.ensures.items
