use Rattle.std.proofs.Common.{◌≡◌, ◌++◌, map, drop}
use Rattle.std.specs.List.{flat_map}
use Rattle.bank_prog_form.specs.inner.Form as form
use Rattle.bank_prog_form.specs.inner.Form.{summary_view}
use Rattle.bank_prog.proofs.early.push_ears.Given as goal

abbrev pub invariant-loop-summary : goal.invariant-loop-summary
invariant-loop-summary l = l.out.items ++ flat_map (form.part_ears) (map summary_view (drop l.summary-index l.summaries)) ≡ l.fn.out.items ++ flat_map (form.part_ears) (map summary_view l.summaries)
