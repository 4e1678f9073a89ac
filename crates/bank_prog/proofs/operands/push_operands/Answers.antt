use Rattle.std.proofs.Common.{◌++◌, ap, map, arith}
use Rattle.std.specs.HashMap.{get}
use Rattle.std.specs.List.{flat_map}
use Rattle.zo_model.specs.Contents.{row_contents}
use Rattle.bank_prog_form.specs.Program.{same_column, row_of}
use Rattle.bank_prog_form.specs.inner.Form.{summary_view}
use Rattle.bank_prog_form.specs.inner.Form as form
use Rattle.bank_prog_form.proofs.Loops.{adds-more, adds-all, adds-as}
use Rattle.bank_prog.proofs.operands.push_operands.Goals as goal

pub loop-summary-preserved : goal.loop-summary-preserved
loop-summary-preserved c =
    let number = get same_column c.args.numbers.now in
    adds-more number (form.part_operands) summary_view c.args.summaries.now c.loop-summary.summary-index _ c.loop-summary.rows.items c.push_point_operands.new.rows.items
    (map row_contents c.args.rows.now.items ++ map (row_of number) (flat_map (form.part_operands) (map summary_view c.args.summaries.now)))
    (omega arith) (adds-as number c.loop-summary.rows.items c.push_point_operands.new.rows.items _ _ c.in_ok-push_point_operands.ensures (ap (λ s. form.part_operands (summary_view s)) c.summary-item.is)) c.loop-summary.invariant

pub returns : goal.returns
returns c =
    let number = get same_column c.args.numbers.now in
    adds-all number (form.part_operands) summary_view c.args.summaries.now c.loop-summary.summary-index c.loop-summary.rows.items
    (map row_contents c.args.rows.now.items ++ map (row_of number) (flat_map (form.part_operands) (map summary_view c.args.summaries.now))) (omega arith) c.loop-summary.invariant
