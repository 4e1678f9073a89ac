use Rattle.std.proofs.Common.{arith}
use Rattle.cps_close.specs.inner.View.{table_view}
use Rattle.cps_close.proofs.Turns.{closed-turn}
use Rattle.cps_close.proofs.trees.labels_of.Goals as goal

pub loop-i-preserved : goal.loop-i-preserved
loop-i-preserved c =
    closed-turn (table_view c.args.table.now) c.args.conts.now c.loop-i.i c.index-conts-i.result _ c.loop-i.labels.items c.push-in-loop-i.new.self.items c.in_ok-label_of.field-0 (omega arith) c.index-conts-i.is c.in_ok-push-2.ensures.items c.loop-i.invariant c.in_ok-label_of.ensures
