use Rattle.std.proofs.Common.{◌++◌, ◌∙◌, ap, map, arith}
use Rattle.std.specs.HashMap.{get}
use Rattle.std.specs.List.{flat_map}
use Rattle.zo_model.specs.Contents.{row_contents}
use Rattle.bank_prog_form.specs.Program.{same_column, row_of}
use Rattle.bank_prog_form.specs.Rows as lines
use Rattle.ssu_liveness.specs.LiveRows.{Kept}
use Rattle.bank_prog_form.proofs.Loops.{adds-more, adds-all, adds-as}
use Rattle.bank_prog.proofs.capacity.push_rooms.Goals as goal

pub loop-xs-preserved : goal.loop-xs-preserved
loop-xs-preserved c =
    let number = get same_column c.args.numbers.now in
    adds-more number (lines.room_lines c.args.slots) (λ (v : Kept). v.items) c.args.held.now c.loop-xs.xs-index _ c.loop-xs.rows.items c.push_room.new.rows.items
    (map row_contents c.args.rows.now.items ++ map (row_of number) (flat_map (lines.room_lines c.args.slots) (map (λ (v : Kept). v.items) c.args.held.now)))
    (omega arith) (adds-as number c.loop-xs.rows.items c.push_room.new.rows.items _ _ c.in_ok-push_room.ensures (ap (lines.room_lines c.args.slots) (c.deref.ensures.value ∙ ap (λ (v : Kept). v.items) c.xs-item.is))) c.loop-xs.invariant

pub returns : goal.returns
returns c =
    let number = get same_column c.args.numbers.now in
    adds-all number (lines.room_lines c.args.slots) (λ (v : Kept). v.items) c.args.held.now c.loop-xs.xs-index c.loop-xs.rows.items
    (map row_contents c.args.rows.now.items ++ map (row_of number) (flat_map (lines.room_lines c.args.slots) (map (λ (v : Kept). v.items) c.args.held.now))) (omega arith) c.loop-xs.invariant
