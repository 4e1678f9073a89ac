use Rattle.std.proofs.Common.{◌≡◌, ◌++◌, map, drop}
use Rattle.std.specs.HashMap.{get}
use Rattle.std.specs.List.{flat_map}
use Rattle.zo_model.specs.Contents.{row_contents}
use Rattle.bank_prog_form.specs.Program.{same_column, row_of}
use Rattle.bank_prog_form.specs.Rows as lines
use Rattle.ssu_liveness.specs.LiveRows.{Kept}
use Rattle.bank_prog.proofs.capacity.push_rooms.Given as goal

abbrev pub invariant-loop-xs : goal.invariant-loop-xs
invariant-loop-xs l =
    map row_contents l.rows.items ++ map (row_of (get same_column l.numbers)) (flat_map (lines.room_lines l.slots) (map (λ (v : Kept). v.items) (drop l.xs-index l.held)))
    ≡ map row_contents l.fn.rows.items ++ map (row_of (get same_column l.numbers)) (flat_map (lines.room_lines l.slots) (map (λ (v : Kept). v.items) l.held))
