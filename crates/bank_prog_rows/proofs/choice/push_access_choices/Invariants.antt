use Rattle.std.proofs.Common.{◌≡◌, ◌++◌, map, drop}
use Rattle.std.specs.HashMap.{get}
use Rattle.std.specs.List.{flat_map}
use Rattle.zo_model.specs.Contents.{row_contents}
use Rattle.bank_prog_form.specs.Program.{same_column, row_of}
use Rattle.bank_prog_form.specs.Rows as lines
use Rattle.bank_prog_form.specs.inner.Form.{access_view}
use Rattle.bank_prog_rows.proofs.choice.push_access_choices.Given as goal

abbrev pub invariant-loop-a : goal.invariant-loop-a
invariant-loop-a l =
    map row_contents l.rows.items ++ map (row_of (get same_column l.numbers)) (flat_map (lines.access_choice) (map access_view (drop l.a-index l.accesses)))
    ≡ map row_contents l.fn.rows.items ++ map (row_of (get same_column l.numbers)) (flat_map (lines.access_choice) (map access_view l.accesses))
