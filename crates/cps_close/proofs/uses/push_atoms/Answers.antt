use Rattle.std.proofs.Common.{arith}
use Rattle.cps_close.proofs.Turns.{vars-turn}
use Rattle.cps_close.proofs.uses.push_atoms.Goals as goal

pub loop-a-preserved : goal.loop-a-preserved
loop-a-preserved c = vars-turn c.args.xs.now c.loop-a.a-index _ c.args.v.now.items c.loop-a.v.items c.push_atom.new.v.items (omega arith) c.in_ok-push_atom.ensures c.loop-a.invariant
