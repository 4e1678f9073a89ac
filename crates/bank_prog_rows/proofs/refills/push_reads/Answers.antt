use Rattle.std.proofs.Common.{◌++◌, map, arith}
use Rattle.std.specs.HashMap.{get}
use Rattle.std.specs.List.{flat_map}
use Rattle.zo_model.specs.Contents.{row_contents}
use Rattle.bank_prog_form.specs.Program.{same_column, row_of}
use Rattle.bank_prog_form.specs.Rows as lines
use Rattle.bank_prog_form.specs.inner.Form.{access_view}
use Rattle.ssu_ir.specs.View.{labels_view}
use Rattle.bank_prog_form.proofs.Loops.{adds-more, adds-all}
use Rattle.bank_prog_rows.proofs.refills.push_reads.Goals as goal

pub loop-a-preserved : goal.loop-a-preserved
loop-a-preserved c =
    let number = get same_column c.args.numbers.now in
    adds-more number (lines.access_owners (labels_view c.args.f.now.ssu.now) c.args.xs.now) access_view c.args.reads.now c.loop-a.a-index _ c.loop-a.rows.items c.push_access_owners.new.rows.items
    (map row_contents c.args.rows.now.items ++ map (row_of number) (flat_map (lines.access_owners (labels_view c.args.f.now.ssu.now) c.args.xs.now) (map access_view c.args.reads.now)))
    (omega arith) c.in_ok-push_access_owners.ensures c.loop-a.invariant

pub returns : goal.returns
returns c =
    let number = get same_column c.args.numbers.now in
    adds-all number (lines.access_owners (labels_view c.args.f.now.ssu.now) c.args.xs.now) access_view c.args.reads.now c.loop-a.a-index c.loop-a.rows.items
    (map row_contents c.args.rows.now.items ++ map (row_of number) (flat_map (lines.access_owners (labels_view c.args.f.now.ssu.now) c.args.xs.now) (map access_view c.args.reads.now))) (omega arith) c.loop-a.invariant
