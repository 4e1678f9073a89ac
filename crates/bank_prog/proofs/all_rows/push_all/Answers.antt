use Rattle.std.proofs.Common.{◌++◌}
use Rattle.std.specs.HashMap.{get}
use Rattle.ssu_ir.specs.View.{labels_view}
use Rattle.ssu_liveness.proofs.RowSteps.{on-ok}
use Rattle.bank_prog_form.specs.Program.{same_column}
use Rattle.bank_prog_form.specs.Rows.{one_choice, homes_cover, operand_banks, capacity, owners, adjacency, passes}
use Rattle.bank_prog_form.proofs.Loops.{adds-both}
use Rattle.bank_prog.proofs.all_rows.push_all.Goals as goal

pub returns : goal.returns
returns c =
    let number = get same_column c.args.numbers.now in
    let labels = labels_view c.args.f.now.ssu.now in
    let slots = c.args.slots in
    let r0 = c.args.rows.now.items in
    let r1 = c.push_one_choice.new.rows.items in
    let r2 = c.push_homes_cover.new.rows.items in
    let r3 = c.push_operand_banks.new.rows.items in
    let r4 = c.push_capacity.new.rows.items in
    let r5 = c.push_owners.new.rows.items in
    let r6 = c.push_adjacency.new.rows.items in
    let r7 = c.push_passes.new.rows.items in
    on-ok c.push_passes.result _ _
    (λ h. adds-both number r0 r1 r7 (one_choice labels) (homes_cover labels ++ (operand_banks labels ++ (capacity labels slots ++ (owners labels ++ (adjacency labels ++ passes labels))))) c.in_ok-push_one_choice.ensures
    (adds-both number r1 r2 r7 (homes_cover labels) (operand_banks labels ++ (capacity labels slots ++ (owners labels ++ (adjacency labels ++ passes labels)))) c.in_ok-push_homes_cover.ensures
    (adds-both number r2 r3 r7 (operand_banks labels) (capacity labels slots ++ (owners labels ++ (adjacency labels ++ passes labels))) c.in_ok-push_operand_banks.ensures
    (adds-both number r3 r4 r7 (capacity labels slots) (owners labels ++ (adjacency labels ++ passes labels)) c.in_ok-push_capacity.ensures
    (adds-both number r4 r5 r7 (owners labels) (adjacency labels ++ passes labels) c.in_ok-push_owners.ensures
    (adds-both number r5 r6 r7 (adjacency labels) (passes labels) c.in_ok-push_adjacency.ensures h))))))
    c.push_passes.ensures
