use Rattle.std.proofs.Common.{arith}
use Rattle.cps_rules.proofs.Marking.{adds_next}
use Rattle.cps_rules.proofs.marks.Marks.add_all.Goals as goal

pub loop-a-preserved : goal.loop-a-preserved
loop-a-preserved c = adds_next c.args.atoms.now c.loop-a.a-index _ (omega arith) c.loop-a.invariant c.in_ok-add.ensures
