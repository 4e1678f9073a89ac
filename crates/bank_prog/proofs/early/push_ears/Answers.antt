use Rattle.std.proofs.Common.{◌++◌, ◌∙◌, ap, map, arith}
use Rattle.std.specs.List.{flat_map}
use Rattle.bank_prog_form.specs.Columns as columns
use Rattle.bank_prog_form.specs.inner.Form as form
use Rattle.bank_prog_form.specs.inner.Form.{summary_view}
use Rattle.bank_prog_form.proofs.Loops.{out-more, out-all}
use Rattle.bank_prog.proofs.early.push_ears.Goals as goal
use Rattle.place_plan.specs.inner.UseViews.{use_view}

pub loop-summary-preserved : goal.loop-summary-preserved
loop-summary-preserved c =
    out-more (form.part_ears) summary_view c.args.summaries.now c.loop-summary.summary-index _ c.loop-summary.out.items c.push_point_ears.new.out.items
    (c.args.out.now.items ++ flat_map (form.part_ears) (map summary_view c.args.summaries.now)) (omega arith) (c.in_ok-push_point_ears.ensures ∙ ap (λ xs. c.loop-summary.out.items ++ flat_map (columns.ear_columns c.summary-item.result.words) (map use_view xs)) c.deref.ensures.value ∙ ap (λ s. c.loop-summary.out.items ++ form.part_ears (summary_view s)) c.summary-item.is) c.loop-summary.invariant

pub returns : goal.returns
returns c = out-all (form.part_ears) summary_view c.args.summaries.now c.loop-summary.summary-index c.loop-summary.out.items (c.args.out.now.items ++ flat_map (form.part_ears) (map summary_view c.args.summaries.now)) (omega arith) c.loop-summary.invariant
