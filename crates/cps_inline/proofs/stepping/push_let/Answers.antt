use Rattle.std.proofs.lemmas.Result.{IfOk-weaker}
use Rattle.cps_inline.proofs.Adding.{adds-let}
use Rattle.cps_inline.proofs.stepping.push_let.Goals as goal

pub returns : goal.returns
returns c =
    IfOk-weaker c.push_step.result _ _ (λ u e. adds-let c.args.steps.now.items c.push_step.new.steps.items c.args.base c.args.x c.in_ok-moved.field-0 c.args.a c.in_ok-moved_primitive.field-0 e c.in_ok-moved.ensures c.in_ok-moved_primitive.ensures) c.push_step.ensures
