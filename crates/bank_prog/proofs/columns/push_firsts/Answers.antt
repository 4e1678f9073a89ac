use Rattle.std.proofs.Common.{◌++◌, map, arith}
use Rattle.std.specs.List.{flat_map}
use Rattle.bank_prog_form.specs.Columns as columns
use Rattle.bank_prog_form.specs.inner.Form.{access_view}
use Rattle.bank_prog_form.proofs.Loops.{out-more, out-all}
use Rattle.bank_prog.proofs.columns.push_firsts.Goals as goal

pub loop-a-preserved : goal.loop-a-preserved
loop-a-preserved c =
    out-more (columns.first_columns) access_view c.args.accesses.now c.loop-a.a-index _ c.loop-a.out.items c.push_first.new.out.items
    (c.args.out.now.items ++ flat_map (columns.first_columns) (map access_view c.args.accesses.now)) (omega arith) c.in_ok-push_first.ensures c.loop-a.invariant

pub returns : goal.returns
returns c = out-all (columns.first_columns) access_view c.args.accesses.now c.loop-a.a-index c.loop-a.out.items (c.args.out.now.items ++ flat_map (columns.first_columns) (map access_view c.args.accesses.now)) (omega arith) c.loop-a.invariant
