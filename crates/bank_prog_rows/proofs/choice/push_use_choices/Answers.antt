use Rattle.std.proofs.Common.{◌++◌, map, arith}
use Rattle.std.specs.HashMap.{get}
use Rattle.std.specs.List.{flat_map}
use Rattle.zo_model.specs.Contents.{row_contents}
use Rattle.bank_prog_form.specs.Program.{same_column, row_of}
use Rattle.bank_prog_form.specs.Rows as lines
use Rattle.bank_prog_form.proofs.Loops.{adds-more, adds-all}
use Rattle.bank_prog_rows.proofs.choice.push_use_choices.Goals as goal
use Rattle.place_plan.specs.inner.UseViews.{use_view}

pub loop-u-preserved : goal.loop-u-preserved
loop-u-preserved c =
    let number = get same_column c.args.numbers.now in
    adds-more number (lines.use_choice) use_view c.args.uses.now c.loop-u.u-index _ c.loop-u.rows.items c.push_use_choice.new.rows.items
    (map row_contents c.args.rows.now.items ++ map (row_of number) (flat_map (lines.use_choice) (map use_view c.args.uses.now)))
    (omega arith) c.in_ok-push_use_choice.ensures c.loop-u.invariant

pub returns : goal.returns
returns c =
    let number = get same_column c.args.numbers.now in
    adds-all number (lines.use_choice) use_view c.args.uses.now c.loop-u.u-index c.loop-u.rows.items
    (map row_contents c.args.rows.now.items ++ map (row_of number) (flat_map (lines.use_choice) (map use_view c.args.uses.now))) (omega arith) c.loop-u.invariant
