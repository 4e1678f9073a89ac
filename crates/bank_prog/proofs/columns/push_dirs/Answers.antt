use Rattle.std.proofs.Common.{◌++◌, ◌∙◌, ap, map, arith}
use Rattle.std.specs.List.{flat_map}
use Rattle.bank_prog_form.specs.Columns as columns
use Rattle.bank_prog_form.specs.inner.Form as form
use Rattle.bank_prog_form.specs.inner.Form.{summary_view}
use Rattle.ssu_ir.specs.View.{labels_view}
use Rattle.bank_prog_form.proofs.Loops.{out-more, out-all}
use Rattle.bank_prog.proofs.columns.push_dirs.Goals as goal
use Rattle.place_plan.specs.inner.UseViews.{use_view}

pub loop-summary-preserved : goal.loop-summary-preserved
loop-summary-preserved c =
    out-more (form.part_dirs (labels_view c.args.f.now.ssu.now)) summary_view c.args.summaries.now c.loop-summary.summary-index _ c.loop-summary.out.items c.push_point_dirs.new.out.items
    (c.args.out.now.items ++ flat_map (form.part_dirs (labels_view c.args.f.now.ssu.now)) (map summary_view c.args.summaries.now)) (omega arith) (c.in_ok-push_point_dirs.ensures ∙ ap (λ xs. c.loop-summary.out.items ++ flat_map (columns.dir_columns (labels_view c.args.f.now.ssu.now) c.summary-item.result.words) (map use_view xs)) c.deref.ensures.value ∙ ap (λ s. c.loop-summary.out.items ++ form.part_dirs (labels_view c.args.f.now.ssu.now) (summary_view s)) c.summary-item.is) c.loop-summary.invariant

pub returns : goal.returns
returns c = out-all (form.part_dirs (labels_view c.args.f.now.ssu.now)) summary_view c.args.summaries.now c.loop-summary.summary-index c.loop-summary.out.items (c.args.out.now.items ++ flat_map (form.part_dirs (labels_view c.args.f.now.ssu.now)) (map summary_view c.args.summaries.now)) (omega arith) c.loop-summary.invariant
