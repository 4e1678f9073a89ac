use Rattle.std.proofs.Common.{◌≡◌, ◌++◌, map, drop}
use Rattle.std.specs.List.{flat_map}
use Rattle.bank_prog_form.specs.inner.Form.{value_view, part_values, summary_view}
use Rattle.bank_prog_form.proofs.tables.all_values.Given as goal

abbrev pub invariant-loop-summary : goal.invariant-loop-summary
invariant-loop-summary l = map value_view l.all.items ++ flat_map part_values (map summary_view (drop l.summary-index l.summaries)) ≡ flat_map part_values (map summary_view l.summaries)
