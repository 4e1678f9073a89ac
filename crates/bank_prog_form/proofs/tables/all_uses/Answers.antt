use Rattle.std.proofs.Common.{◌∙◌, ◌++◌, map, ap, arith}
use Rattle.std.specs.List.{flat_map}
use Rattle.bank_prog_form.specs.inner.Form.{part_uses, summary_view}
use Rattle.bank_prog_form.proofs.Loops.{out-more, out-all}
use Rattle.bank_prog_form.proofs.tables.all_uses.Goals as goal
use Rattle.place_plan.specs.inner.UseViews.{use_view}

pub loop-summary-preserved : goal.loop-summary-preserved
loop-summary-preserved c =
    out-more part_uses summary_view c.args.summaries.now c.loop-summary.summary-index _ (map use_view c.loop-summary.all.items) (map use_view c.add_uses.new.all.items) (flat_map part_uses (map summary_view c.args.summaries.now)) (omega arith)
    (c.in_ok-add_uses.ensures ∙ ap (λ s. map use_view c.loop-summary.all.items ++ part_uses (summary_view s)) c.summary-item.is) c.loop-summary.invariant

pub returns : goal.returns
returns c = out-all part_uses summary_view c.args.summaries.now c.loop-summary.summary-index (map use_view c.loop-summary.all.items) (flat_map part_uses (map summary_view c.args.summaries.now)) (omega arith) c.loop-summary.invariant
