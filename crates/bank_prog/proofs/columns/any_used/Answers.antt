use Rattle.std.proofs.Common.{◌∙◌, sym, map, arith}
use Rattle.std.specs.List.{list_any}
use Rattle.ssu_ir.specs.View.{labels_view}
use Rattle.place_plan.specs.Uses as pure
use Rattle.place_plan.specs.Uses.{is_used}
use Rattle.bank_prog_form.specs.inner.Form.{value_view}
use Rattle.bank_prog_form.proofs.Loops.{any-more, any-here, any-none}
use Rattle.bank_prog.proofs.columns.any_used.Goals as goal

pub loop-v-preserved : goal.loop-v-preserved
loop-v-preserved c =
    let p = λ (v : pure.Value). is_used (labels_view c.args.f.now.ssu.now) v.var in
    any-more p value_view c.args.values.now c.loop-v.v-index _ (list_any p (map value_view c.args.values.now)) (omega arith) (sym c.is_used.ensures ∙ c.if-is_used.false) c.loop-v.invariant

pub returns-then-is_used : goal.returns-then-is_used
returns-then-is_used c =
    let p = λ (v : pure.Value). is_used (labels_view c.args.f.now.ssu.now) v.var in
    any-here p value_view c.args.values.now c.loop-v.v-index _ (list_any p (map value_view c.args.values.now)) (omega arith) (sym c.is_used.ensures ∙ c.if-is_used.true) c.loop-v.invariant

pub returns : goal.returns
returns c =
    let p = λ (v : pure.Value). is_used (labels_view c.args.f.now.ssu.now) v.var in
    any-none p value_view c.args.values.now c.loop-v.v-index (list_any p (map value_view c.args.values.now)) (omega arith) c.loop-v.invariant
