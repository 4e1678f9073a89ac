use Rattle.std.proofs.Common.{◌++◌, map, arith}
use Rattle.std.specs.HashMap.{get}
use Rattle.std.specs.List.{flat_map}
use Rattle.zo_model.specs.Contents.{row_contents}
use Rattle.bank_prog_form.specs.Program.{same_column, row_of}
use Rattle.bank_prog_form.specs.inner.Owners as owners
use Rattle.ssu_ir.specs.View.{labels_view}
use Rattle.bank_prog_form.proofs.Loops.{adds-plain-more, adds-plain-all}
use Rattle.bank_prog_rows.proofs.owners.push_sdram_owners.Goals as goal

pub loop-r-preserved : goal.loop-r-preserved
loop-r-preserved c =
    let number = get same_column c.args.numbers.now in
    adds-plain-more number (owners.sdram_owner (labels_view c.args.f.now.ssu.now) c.args.xs.now) c.args.rs.now c.loop-r.r-index _ c.loop-r.rows.items c.push_sdram_owner.new.rows.items
    (map row_contents c.args.rows.now.items ++ map (row_of number) (flat_map (owners.sdram_owner (labels_view c.args.f.now.ssu.now) c.args.xs.now) c.args.rs.now))
    (omega arith) c.in_ok-push_sdram_owner.ensures c.loop-r.invariant

pub returns : goal.returns
returns c =
    let number = get same_column c.args.numbers.now in
    adds-plain-all number (owners.sdram_owner (labels_view c.args.f.now.ssu.now) c.args.xs.now) c.args.rs.now c.loop-r.r-index c.loop-r.rows.items
    (map row_contents c.args.rows.now.items ++ map (row_of number) (flat_map (owners.sdram_owner (labels_view c.args.f.now.ssu.now) c.args.xs.now) c.args.rs.now)) (omega arith) c.loop-r.invariant
