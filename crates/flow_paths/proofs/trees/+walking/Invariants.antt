use Rattle.std.proofs.Common.{◌+◌, ◌*◌}
use Rattle.flow_ir.specs.declared.flow.Tree.{size-Tree}
use Rattle.flow_paths.proofs.Along.{Along}
use Rattle.flow_paths.proofs.trees.+walking.Given as goal

abbrev pub invariant-walked_steps-spine : goal.invariant-walked_steps-spine
invariant-walked_steps-spine l = Along l.t l.cur l.initial.steps.items l.steps.items l.initial.above.items l.above.items

abbrev pub decreases-walked_steps-spine : goal.decreases-walked_steps-spine
decreases-walked_steps-spine l = size-Tree l.cur

abbrev pub decreases-walked_steps : goal.decreases-walked_steps
decreases-walked_steps l = 2 * size-Tree l.t.now

abbrev pub decreases-arm : goal.decreases-arm
decreases-arm l = 2 * size-Tree l.t.now + 1
