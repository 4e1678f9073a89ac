use Rattle.nova_middle.proofs.SimpleFlows.{simple_more, simple_all, simple_not}
use Rattle.nova_middle.proofs.simple.are_simple.Goals as goal

pub loop-l-preserved : goal.loop-l-preserved
loop-l-preserved c = simple_more c.args.labels.now c.loop-l.l-index c.l-item.result c.l-item.result c.loop-l-test.true c.l-item.is (c.is_simple.ensures.0 c.if-not-is_simple.false) c.loop-l.invariant

pub returns : goal.returns
returns c = simple_all c.args.labels.now c.loop-l.l-index c.loop-l-test.false c.loop-l.invariant

pub returns-then-not-is_simple : goal.returns-then-not-is_simple
returns-then-not-is_simple c = simple_not c.args.labels.now c.loop-l.l-index c.l-item.result c.l-item.result c.is_simple.result c.loop-l-test.true c.l-item.is c.is_simple.ensures c.if-not-is_simple.true
