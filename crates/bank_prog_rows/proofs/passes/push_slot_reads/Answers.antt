use Rattle.std.proofs.Common.{◌++◌, map, arith}
use Rattle.std.specs.HashMap.{get}
use Rattle.std.specs.List.{flat_map}
use Rattle.zo_model.specs.Contents.{row_contents}
use Rattle.bank_prog_form.specs.Program.{same_column, row_of}
use Rattle.bank_prog_form.specs.Rows as lines
use Rattle.bank_prog_form.proofs.Loops.{adds-more, adds-all}
use Rattle.bank_prog_rows.proofs.passes.push_slot_reads.Goals as goal
use Rattle.place_plan.specs.inner.UseViews.{use_view}

pub loop-u-preserved : goal.loop-u-preserved
loop-u-preserved c =
    let number = get same_column c.args.numbers.now in
    adds-more number (lines.slot_read) use_view c.args.uses.now c.loop-u.u-index _ c.loop-u.rows.items c.push_slot_read.new.rows.items
    (map row_contents c.args.rows.now.items ++ map (row_of number) (flat_map (lines.slot_read) (map use_view c.args.uses.now)))
    (omega arith) c.in_ok-push_slot_read.ensures c.loop-u.invariant

pub returns : goal.returns
returns c =
    let number = get same_column c.args.numbers.now in
    adds-all number (lines.slot_read) use_view c.args.uses.now c.loop-u.u-index c.loop-u.rows.items
    (map row_contents c.args.rows.now.items ++ map (row_of number) (flat_map (lines.slot_read) (map use_view c.args.uses.now))) (omega arith) c.loop-u.invariant
