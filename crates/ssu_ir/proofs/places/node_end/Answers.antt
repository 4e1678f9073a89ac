use Rattle.ssu_ir.specs.Slots.{node_of}
use Rattle.ssu_ir.proofs.Ends.{node-below}
use Rattle.ssu_ir.proofs.places.node_end.Goals as goal

pub returns-clause-defined : goal.returns-clause-defined
returns-clause-defined c = node-below (node_of c.args.n.now) c.above-most.result c.above.result _ _ c.values.ensures c.clones.ensures c.above-most.ensures.items c.above.ensures.least c.above.ensures.items
