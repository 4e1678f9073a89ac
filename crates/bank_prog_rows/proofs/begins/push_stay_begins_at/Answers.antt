use Rattle.std.proofs.Common.{◌++◌, map, arith}
use Rattle.std.specs.HashMap.{get}
use Rattle.std.specs.List.{flat_map}
use Rattle.zo_model.specs.Contents.{row_contents}
use Rattle.bank_prog_form.specs.Program.{same_column, row_of}
use Rattle.bank_prog_form.specs.inner.Form as form
use Rattle.bank_prog_form.proofs.Loops.{adds-plain-more, adds-plain-all}
use Rattle.bank_prog_rows.proofs.begins.push_stay_begins_at.Goals as goal

pub loop-f-preserved : goal.loop-f-preserved
loop-f-preserved c =
    let number = get same_column c.args.numbers.now in
    adds-plain-more number (form.stay_begin (form.value_view c.args.v)) c.args.firsts.now c.loop-f.f-index _ c.loop-f.rows.items c.push_stay_begin.new.rows.items
    (map row_contents c.args.rows.now.items ++ map (row_of number) (flat_map (form.stay_begin (form.value_view c.args.v)) c.args.firsts.now))
    (omega arith) c.in_ok-push_stay_begin.ensures c.loop-f.invariant

pub returns : goal.returns
returns c =
    let number = get same_column c.args.numbers.now in
    adds-plain-all number (form.stay_begin (form.value_view c.args.v)) c.args.firsts.now c.loop-f.f-index c.loop-f.rows.items
    (map row_contents c.args.rows.now.items ++ map (row_of number) (flat_map (form.stay_begin (form.value_view c.args.v)) c.args.firsts.now)) (omega arith) c.loop-f.invariant
