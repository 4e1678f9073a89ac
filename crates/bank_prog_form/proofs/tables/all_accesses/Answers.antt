use Rattle.std.proofs.Common.{◌∙◌, ◌++◌, map, ap, arith}
use Rattle.std.specs.List.{flat_map}
use Rattle.bank_prog_form.specs.inner.Form.{access_view, part_accesses, summary_view}
use Rattle.bank_prog_form.proofs.Loops.{out-more, out-all}
use Rattle.bank_prog_form.proofs.tables.all_accesses.Goals as goal

pub loop-summary-preserved : goal.loop-summary-preserved
loop-summary-preserved c =
    out-more part_accesses summary_view c.args.summaries.now c.loop-summary.summary-index _ (map access_view c.loop-summary.all.items) (map access_view c.add_accesses.new.all.items) (flat_map part_accesses (map summary_view c.args.summaries.now)) (omega arith)
    (c.in_ok-add_accesses.ensures ∙ ap (λ s. map access_view c.loop-summary.all.items ++ part_accesses (summary_view s)) c.summary-item.is) c.loop-summary.invariant

pub returns : goal.returns
returns c = out-all part_accesses summary_view c.args.summaries.now c.loop-summary.summary-index (map access_view c.loop-summary.all.items) (flat_map part_accesses (map summary_view c.args.summaries.now)) (omega arith) c.loop-summary.invariant
