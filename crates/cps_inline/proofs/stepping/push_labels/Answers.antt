use Rattle.std.proofs.Common.{refl}
use Rattle.std.proofs.lemmas.Result.{IfOk-weaker}
use Rattle.cps_ir.specs.Term as cps
use Rattle.cps_ir.specs.View.{labels_view}
use Rattle.cps_ir.specs.declared.spine.Step.TheVariants as step
use Rattle.cps_inline.proofs.Adding.{adds-step}
use Rattle.cps_inline.proofs.stepping.push_labels.Goals as goal

pub returns : goal.returns
returns c =
    IfOk-weaker c.push_step.result _ _ (λ u e. adds-step c.args.steps.now.items c.push_step.new.steps.items (step.Labels c.args.labels) (cps.Fix (labels_view c.args.labels.items)) e (λ t. refl)) c.push_step.ensures
