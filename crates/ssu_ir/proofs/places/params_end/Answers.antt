use Rattle.ssu_ir.proofs.Ends.{params-more, params-all}
use Rattle.ssu_ir.proofs.places.params_end.Goals as goal

pub loop-l-preserved : goal.loop-l-preserved
loop-l-preserved c =
    params-more c.args.s.now.labels.items _ c.loop-l.l-index c.loop-l.most c.above-most.result _ _ c.deref-l-items.ensures.value c.loop-l-test.true c.l-item.is c.deref.ensures.value c.loop-l.invariant c.above-most.ensures.least c.above-most.ensures.items

pub returns : goal.returns
returns c = params-all c.args.s.now.labels.items _ c.loop-l.l-index c.loop-l.most c.deref-l-items.ensures.value c.loop-l-test.false c.loop-l.invariant
