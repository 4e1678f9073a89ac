use Rattle.std.proofs.Common.{◌≡◌, ◌++◌}
use Rattle.nv_flatten_values.proofs.parts.add_steps.Given as goal

abbrev pub invariant-loop-step : goal.invariant-loop-step
invariant-loop-step l = l.steps.items ++ l.step-iterator.rest.items ≡ l.fn.steps.items ++ l.fn.more.items
