use Rattle.std.proofs.Common.{◌++◌}
use Rattle.nv_flatten_values.proofs.Lists.{moved-item}
use Rattle.nv_flatten_values.proofs.parts.add_steps.Goals as goal

pub loop-step-preserved : goal.loop-step-preserved
loop-step-preserved c =
    moved-item c.loop-step.steps.items c.push.new.self.items c.loop-step.step-iterator.rest.items c.next.new.self.rest.items (c.args.steps.now.items ++ c.args.more.items) c.in-Some.step c.in-Some.ensures.steps.0 c.in_ok-push.ensures.items c.loop-step.invariant
