use Rattle.std.proofs.lemmas.Result.{IfOk-weaker}
use Rattle.cps_inline.proofs.Adding.{adds-if}
use Rattle.cps_inline.proofs.stepping.push_if.Goals as goal

pub returns : goal.returns
returns c =
    IfOk-weaker c.push_step.result _ _ (λ u e. adds-if c.args.steps.now.items c.push_step.new.steps.items c.args.base c.args.c c.args.a c.in-Ok.found c.args.b c.in-Ok-moved_atom.found c.args.first e c.in-Ok.ensures c.in-Ok-moved_atom.ensures) c.push_step.ensures
