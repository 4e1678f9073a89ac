use Rattle.std.proofs.Common.{◌∙◌, ◌++◌, ap, map}
use Rattle.std.specs.HashMap.{get}
use Rattle.zo_model.specs.Contents.{row_contents}
use Rattle.ssu_ir.specs.Points.{points}
use Rattle.ssu_ir.specs.View.{labels_view}
use Rattle.ssu_liveness.specs.LiveRows.{items_of}
use Rattle.ssu_liveness.proofs.RowSteps.{on-ok}
use Rattle.bank_prog_form.specs.Columns.{each_point}
use Rattle.bank_prog_form.specs.Program.{same_column}
use Rattle.bank_prog_form.specs.Rows.{read_owners, fill_owners, write_owners}
use Rattle.bank_prog_form.specs.inner.Adds.{Adds}
use Rattle.bank_prog_form.proofs.Loops.{adds-both}
use Rattle.bank_prog_rows.proofs.OwnerSteps.{all-owners}
use Rattle.bank_prog_rows.proofs.owners.push_owners.Goals as goal

pub returns : goal.returns
returns c =
    let number = get same_column c.args.numbers.now in
    let labels = labels_view c.args.f.now.ssu.now in
    let ps = points labels in
    let start = c.args.rows.now.items in
    let first = c.push_read_owners.new.rows.items in
    let second = c.push_fill_owners.new.rows.items in
    let third = c.push_write_owners.new.rows.items in
    let reads : Adds number start first (each_point (read_owners labels) 0 ps) =
    c.in_ok-push_read_owners.ensures ∙ ap (λ zs. map row_contents start ++ zs) (all-owners number labels 0 (items_of c.args.held.now) ps c.requires.held) in
    on-ok c.push_write_owners.result _ _
    (λ h. adds-both number start first third (each_point (read_owners labels) 0 ps) (each_point (fill_owners labels) 0 ps ++ each_point (write_owners labels) 0 ps) reads
    (adds-both number first second third (each_point (fill_owners labels) 0 ps) (each_point (write_owners labels) 0 ps) c.in_ok-push_fill_owners.ensures h))
    c.push_write_owners.ensures
