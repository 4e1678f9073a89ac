use Rattle.std.proofs.Common.{arith, refl}
use Rattle.zo_cert.proofs.ReportPieces.{one_more, all_ones}
use Rattle.zo_cert.proofs.report_text.push_ones.Goals as goal

pub loop-column-preserved : goal.loop-column-preserved
loop-column-preserved c =
    one_more _ c.loop-column.out.items c.push_one.new.out.items c.args.on.now c.loop-column.column _ _ (omega arith) refl c.loop-column.invariant c.in_ok-push_one.ensures

pub returns : goal.returns
returns c = all_ones c.args.out.now.items c.loop-column.out.items c.push.new.self.items c.args.on.now c.loop-column.column (omega arith) c.loop-column.invariant c.in_ok-push.ensures.items
