use Rattle.std.proofs.Common.{◌++◌, map, arith}
use Rattle.std.specs.List.{flat_map}
use Rattle.bank_prog_form.specs.Rows as lines
use Rattle.bank_prog_form.specs.inner.Form.{access_view}
use Rattle.bank_prog_form.proofs.Loops.{out-more, out-all}
use Rattle.bank_prog_rows.proofs.waiting.add_writes.Goals as goal

pub loop-a-preserved : goal.loop-a-preserved
loop-a-preserved c =
    out-more (lines.side_covering c.args.sdram c.args.r) access_view c.args.writes.now c.loop-a.a-index _ c.loop-a.cs.items c.add_write.new.cs.items
    (c.args.cs.now.items ++ flat_map (lines.side_covering c.args.sdram c.args.r) (map access_view c.args.writes.now)) (omega arith) c.in_ok-add_write.ensures c.loop-a.invariant

pub returns : goal.returns
returns c = out-all (lines.side_covering c.args.sdram c.args.r) access_view c.args.writes.now c.loop-a.a-index c.loop-a.cs.items (c.args.cs.now.items ++ flat_map (lines.side_covering c.args.sdram c.args.r) (map access_view c.args.writes.now)) (omega arith) c.loop-a.invariant
