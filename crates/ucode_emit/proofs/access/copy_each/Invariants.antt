use Rattle.std.proofs.Common.{◌≡◌, ◌++◌, take}
use Rattle.place_plan.specs.Plan.{plan_view}
use Rattle.ucode_emit.specs.inner.Given as given
use Rattle.ucode_emit.proofs.access.copy_each.Given as goal

abbrev pub invariant-loop-x : goal.invariant-loop-x
invariant-loop-x l = l.moves.items ≡ l.initial.moves.items ++ given.each_copied (plan_view l.p) l.s (take l.x-index l.xs)
