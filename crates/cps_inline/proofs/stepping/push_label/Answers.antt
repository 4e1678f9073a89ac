use Rattle.std.proofs.Common.{ap, ◌∙◌}
use Rattle.std.proofs.lemmas.Result.{IfOk-weaker}
use Rattle.cps_inline.proofs.Adding.{adds-label}
use Rattle.cps_inline.specs.inner.Inlined.{moved}
use Rattle.cps_inline.proofs.stepping.push_label.Goals as goal

pub returns : goal.returns
returns c =
    IfOk-weaker c.push_step.result _ _ (λ u e. adds-label c.args.steps.now.items c.push_step.new.steps.items c.args.base c.args.one.now.label c.in-Ok.found c.args.one.now.params.items c.in-Ok-moved_numbers.found c.args.around e c.in-Ok.ensures (c.in-Ok-moved_numbers.ensures ∙ ap (moved c.args.base) c.deref.ensures.value)) c.push_step.ensures
