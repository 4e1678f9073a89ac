use Rattle.std.proofs.Common.{refl, arith}
use Rattle.ssu_ir.proofs.Ends.{below-more, below-all}
use Rattle.ssu_ir.proofs.places.above.Goals as goal

pub loop-x-preserved : goal.loop-x-preserved
loop-x-preserved c = record {
  items = below-more c.args.xs.now c.loop-x.x-index c.loop-x.most c.past-most.result _ c.loop-x-test.true refl c.loop-x.invariant.items c.past-most.ensures.least c.past-most.ensures.above;
  least = omega (arith, c.loop-x.invariant.least, c.past-most.ensures.least);
}

pub returns-clause-items : goal.returns-clause-items
returns-clause-items c = below-all c.args.xs.now c.loop-x.x-index c.loop-x.most c.loop-x-test.false c.loop-x.invariant.items
