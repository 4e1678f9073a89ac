use Rattle.std.proofs.lemmas.Result.{IfOk-weaker}
use Rattle.cps_inline.proofs.Adding.{adds-read}
use Rattle.cps_inline.proofs.stepping.push_read.Goals as goal

pub returns : goal.returns
returns c =
    IfOk-weaker c.push_step.result _ _ (λ u e. adds-read c.args.steps.now.items c.push_step.new.steps.items c.args.base c.args.m c.args.xs.now c.in_ok-vars.vars c.args.a c.in_ok-place.place e c.in_ok-vars.ensures c.in_ok-place.ensures) c.push_step.ensures
