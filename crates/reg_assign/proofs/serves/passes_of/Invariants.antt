use Rattle.std.proofs.Common.{◌≡◌, ◌++◌, map, drop}
use Rattle.std.specs.List.{flat_map}
use Rattle.bank_prog_form.specs.inner.Form.{summary_view}
use Rattle.reg_assign_reading.specs.inner.Reading.{says, part_pass}
use Rattle.reg_assign.proofs.serves.passes_of.Given as goal

abbrev pub invariant-loop-summary : goal.invariant-loop-summary
invariant-loop-summary l = l.passes.items ++ flat_map (part_pass (says l.r)) (map summary_view (drop l.summary-index l.summaries)) ≡ flat_map (part_pass (says l.r)) (map summary_view l.summaries)
