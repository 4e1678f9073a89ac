use Rattle.std.proofs.Common.{◌∙◌, ◌++◌, ap, map}
use Rattle.std.specs.HashMap.{get}
use Rattle.zo_model.specs.Contents.{row_contents}
use Rattle.ssu_ir.specs.Points.{points}
use Rattle.ssu_ir.specs.View.{labels_view}
use Rattle.ssu_liveness.specs.LiveRows.{items_of}
use Rattle.ssu_liveness.proofs.RowSteps.{on-ok}
use Rattle.bank_prog_form.specs.Program.{same_column}
use Rattle.bank_prog_form.proofs.Order.{all-rooms}
use Rattle.bank_prog.proofs.capacity.push_capacity.Goals as goal

pub returns : goal.returns
returns c =
    on-ok c.push_rooms.result _ _
    (λ h. h ∙ ap (λ zs. map row_contents c.args.rows.now.items ++ zs) (all-rooms (get same_column c.args.numbers.now) c.args.slots 0 (items_of c.args.held.now) (points (labels_view c.args.f.now.ssu.now)) c.requires.held))
    c.push_rooms.ensures
