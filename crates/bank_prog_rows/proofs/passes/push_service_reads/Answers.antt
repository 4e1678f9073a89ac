use Rattle.std.proofs.Common.{◌++◌, map, arith}
use Rattle.std.specs.HashMap.{get}
use Rattle.std.specs.List.{flat_map}
use Rattle.zo_model.specs.Contents.{row_contents}
use Rattle.bank_prog_form.specs.Program.{same_column, row_of}
use Rattle.bank_prog_form.specs.inner.Form as form
use Rattle.bank_prog_form.proofs.Loops.{adds-plain-more, adds-plain-all}
use Rattle.bank_prog_rows.proofs.passes.push_service_reads.Goals as goal
use Rattle.place_plan.specs.inner.UseViews.{use_view}

pub loop-s-preserved : goal.loop-s-preserved
loop-s-preserved c =
    let number = get same_column c.args.numbers.now in
    adds-plain-more number (form.service_read (use_view c.args.u)) c.args.services.now c.loop-s.s-index _ c.loop-s.rows.items c.push_service_read.new.rows.items
    (map row_contents c.args.rows.now.items ++ map (row_of number) (flat_map (form.service_read (use_view c.args.u)) c.args.services.now))
    (omega arith) c.in_ok-push_service_read.ensures c.loop-s.invariant

pub returns : goal.returns
returns c =
    let number = get same_column c.args.numbers.now in
    adds-plain-all number (form.service_read (use_view c.args.u)) c.args.services.now c.loop-s.s-index c.loop-s.rows.items
    (map row_contents c.args.rows.now.items ++ map (row_of number) (flat_map (form.service_read (use_view c.args.u)) c.args.services.now)) (omega arith) c.loop-s.invariant
