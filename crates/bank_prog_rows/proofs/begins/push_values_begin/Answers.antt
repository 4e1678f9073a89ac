use Rattle.std.proofs.Common.{◌++◌, map, arith}
use Rattle.std.specs.HashMap.{get}
use Rattle.std.specs.List.{flat_map}
use Rattle.zo_model.specs.Contents.{row_contents}
use Rattle.bank_prog_form.specs.Program.{same_column, row_of}
use Rattle.bank_prog_form.specs.Rows as lines
use Rattle.bank_prog_form.specs.inner.Form.{value_view}
use Rattle.ssu_ir.specs.View.{labels_view}
use Rattle.bank_prog_form.proofs.Loops.{adds-more, adds-all}
use Rattle.bank_prog_rows.proofs.begins.push_values_begin.Goals as goal

pub loop-v-preserved : goal.loop-v-preserved
loop-v-preserved c =
    let number = get same_column c.args.numbers.now in
    adds-more number (lines.stay_begins (labels_view c.args.f.now.ssu.now) c.args.n) value_view c.args.values.now c.loop-v.v-index _ c.loop-v.rows.items c.push_stay_begins.new.rows.items
    (map row_contents c.args.rows.now.items ++ map (row_of number) (flat_map (lines.stay_begins (labels_view c.args.f.now.ssu.now) c.args.n) (map value_view c.args.values.now)))
    (omega arith) c.in_ok-push_stay_begins.ensures c.loop-v.invariant

pub returns : goal.returns
returns c =
    let number = get same_column c.args.numbers.now in
    adds-all number (lines.stay_begins (labels_view c.args.f.now.ssu.now) c.args.n) value_view c.args.values.now c.loop-v.v-index c.loop-v.rows.items
    (map row_contents c.args.rows.now.items ++ map (row_of number) (flat_map (lines.stay_begins (labels_view c.args.f.now.ssu.now) c.args.n) (map value_view c.args.values.now))) (omega arith) c.loop-v.invariant
