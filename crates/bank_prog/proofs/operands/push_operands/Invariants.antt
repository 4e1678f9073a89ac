use Rattle.std.proofs.Common.{◌≡◌, ◌++◌, map, drop}
use Rattle.std.specs.HashMap.{get}
use Rattle.std.specs.List.{flat_map}
use Rattle.zo_model.specs.Contents.{row_contents}
use Rattle.bank_prog_form.specs.Program.{same_column, row_of}
use Rattle.bank_prog_form.specs.inner.Form.{summary_view}
use Rattle.bank_prog_form.specs.inner.Form as form
use Rattle.bank_prog.proofs.operands.push_operands.Given as goal

abbrev pub invariant-loop-summary : goal.invariant-loop-summary
invariant-loop-summary l =
    map row_contents l.rows.items ++ map (row_of (get same_column l.numbers)) (flat_map (form.part_operands) (map summary_view (drop l.summary-index l.summaries)))
    ≡ map row_contents l.fn.rows.items ++ map (row_of (get same_column l.numbers)) (flat_map (form.part_operands) (map summary_view l.summaries))
