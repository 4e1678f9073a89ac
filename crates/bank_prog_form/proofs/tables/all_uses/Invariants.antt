use Rattle.std.proofs.Common.{◌≡◌, ◌++◌, map, drop}
use Rattle.std.specs.List.{flat_map}
use Rattle.bank_prog_form.specs.inner.Form.{part_uses, summary_view}
use Rattle.bank_prog_form.proofs.tables.all_uses.Given as goal
use Rattle.place_plan.specs.inner.UseViews.{use_view}

abbrev pub invariant-loop-summary : goal.invariant-loop-summary
invariant-loop-summary l = map use_view l.all.items ++ flat_map part_uses (map summary_view (drop l.summary-index l.summaries)) ≡ flat_map part_uses (map summary_view l.summaries)
