use Rattle.std.specs.HashMap.{get}
use Rattle.std.specs.List.{flat_map}
use Rattle.ssu_ir.specs.View.{labels_view}
use Rattle.ssu_liveness.proofs.RowSteps.{on-ok}
use Rattle.bank_prog_form.specs.Columns.{eight}
use Rattle.bank_prog_form.specs.Program.{same_column}
use Rattle.bank_prog_form.specs.inner.Owners.{read_owner, sdram_owner}
use Rattle.bank_prog_form.proofs.Loops.{adds-both}
use Rattle.bank_prog_rows.proofs.owners.push_point_owners.Goals as goal

pub returns : goal.returns
returns c =
    let labels = labels_view c.args.f.now.ssu.now in
    on-ok c.push_sdram_owners.result _ _
    (adds-both (get same_column c.args.numbers.now) c.args.rows.now.items c.push_owners_at.new.rows.items c.push_sdram_owners.new.rows.items (flat_map (read_owner labels c.args.k c.args.xs.now) eight)
    (flat_map (sdram_owner labels c.args.xs.now) eight) c.in_ok-push_owners_at.ensures)
    c.push_sdram_owners.ensures
