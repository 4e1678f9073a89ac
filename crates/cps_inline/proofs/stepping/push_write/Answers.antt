use Rattle.std.proofs.lemmas.Result.{IfOk-weaker}
use Rattle.cps_inline.proofs.Adding.{adds-write}
use Rattle.cps_inline.proofs.stepping.push_write.Goals as goal

pub returns : goal.returns
returns c =
    IfOk-weaker c.push_step.result _ _ (λ u e. adds-write c.args.steps.now.items c.push_step.new.steps.items c.args.base c.args.m c.args.a c.in_ok-place.place c.args.bs.now c.in_ok-words.words e c.in_ok-place.ensures c.in_ok-words.ensures) c.push_step.ensures
