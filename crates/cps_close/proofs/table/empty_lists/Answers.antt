use Rattle.std.proofs.Common.{arith}
use Rattle.cps_close.proofs.Turns.{none-turn}
use Rattle.cps_close.proofs.table.empty_lists.Goals as goal

pub loop-c-preserved : goal.loop-c-preserved
loop-c-preserved c = none-turn c.args.conts.now c.loop-c._c-index c._c-item.result c.loop-c.lists.items c.push.new.self.items c.new.result (omega arith) c._c-item.is c.in_ok-push.ensures.items c.new.ensures.items c.loop-c.invariant
