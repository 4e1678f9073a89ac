use Rattle.std.proofs.Common.{◌≡◌, ◌++◌, map, drop}
use Rattle.std.specs.HashMap.{get}
use Rattle.std.specs.List.{flat_map}
use Rattle.zo_model.specs.Contents.{row_contents}
use Rattle.bank_prog_form.specs.Program.{same_column, row_of}
use Rattle.bank_prog_form.specs.Rows as lines
use Rattle.bank_prog_form.specs.inner.Form.{value_view}
use Rattle.bank_prog_rows.proofs.choice.push_parameter_choices.Given as goal

abbrev pub invariant-loop-v : goal.invariant-loop-v
invariant-loop-v l =
    map row_contents l.rows.items ++ map (row_of (get same_column l.numbers)) (flat_map (lines.parameter_choice) (map value_view (drop l.v-index l.values)))
    ≡ map row_contents l.fn.rows.items ++ map (row_of (get same_column l.numbers)) (flat_map (lines.parameter_choice) (map value_view l.values))
