use Rattle.std.proofs.Common.{◌++◌, map, arith}
use Rattle.std.specs.HashMap.{get}
use Rattle.std.specs.List.{flat_map}
use Rattle.zo_model.specs.Contents.{row_contents}
use Rattle.bank_prog_form.specs.Program.{same_column, row_of}
use Rattle.bank_prog_form.specs.Rows as lines
use Rattle.bank_prog_form.specs.inner.Form.{value_view}
use Rattle.ssu_ir.specs.View.{labels_view}
use Rattle.bank_prog_form.proofs.Loops.{adds-more, adds-all}
use Rattle.bank_prog_rows.proofs.choice.push_result_choices.Goals as goal

pub loop-v-preserved : goal.loop-v-preserved
loop-v-preserved c =
    let number = get same_column c.args.numbers.now in
    adds-more number (lines.result_choice (labels_view c.args.f.now.ssu.now)) value_view c.args.values.now c.loop-v.v-index _ c.loop-v.rows.items c.push_result_choice.new.rows.items
    (map row_contents c.args.rows.now.items ++ map (row_of number) (flat_map (lines.result_choice (labels_view c.args.f.now.ssu.now)) (map value_view c.args.values.now)))
    (omega arith) c.in_ok-push_result_choice.ensures c.loop-v.invariant

pub returns : goal.returns
returns c =
    let number = get same_column c.args.numbers.now in
    adds-all number (lines.result_choice (labels_view c.args.f.now.ssu.now)) value_view c.args.values.now c.loop-v.v-index c.loop-v.rows.items
    (map row_contents c.args.rows.now.items ++ map (row_of number) (flat_map (lines.result_choice (labels_view c.args.f.now.ssu.now)) (map value_view c.args.values.now))) (omega arith) c.loop-v.invariant
