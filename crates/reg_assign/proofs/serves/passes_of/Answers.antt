use Rattle.std.proofs.Common.{map, ap, ◌∙◌, ◌++◌, arith}
use Rattle.std.specs.List.{flat_map}
use Rattle.bank_prog_form.specs.declared.form.PointSummary.{PointSummary}
use Rattle.bank_prog_form.specs.inner.Form.{summary_view}
use Rattle.bank_prog_form.proofs.Loops.{out-more, out-all}
use Rattle.reg_assign_reading.specs.inner.Reading.{says, part_pass}
use Rattle.reg_assign.proofs.serves.passes_of.Goals as goal

pub loop-summary-preserved : goal.loop-summary-preserved
loop-summary-preserved c =
    let f = part_pass (says c.args.r.now) in
    out-more f summary_view c.args.summaries.now c.loop-summary.summary-index _ c.loop-summary.passes.items c.push_pass.new.out.items (flat_map f (map summary_view c.args.summaries.now)) (omega arith) (c.in_ok-push_pass.ensures ∙ ap (λ (s : PointSummary). c.loop-summary.passes.items ++ f (summary_view s)) c.summary-item.is) c.loop-summary.invariant

pub returns : goal.returns
returns c =
    let f = part_pass (says c.args.r.now) in
    out-all f summary_view c.args.summaries.now c.loop-summary.summary-index c.loop-summary.passes.items (flat_map f (map summary_view c.args.summaries.now)) (omega arith) c.loop-summary.invariant
