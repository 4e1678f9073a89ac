use Rattle.std.proofs.Common.{arith}
use Rattle.nova_middle.proofs.Members.{all_next}
use Rattle.nova_middle.proofs.rows.Row.add_all.Goals as goal

pub loop-a-preserved : goal.loop-a-preserved
loop-a-preserved c = all_next c.args.atoms.now c.loop-a.a-index _ _ _ _ (omega arith) c.loop-a.invariant c.in_ok-add_atom.ensures
