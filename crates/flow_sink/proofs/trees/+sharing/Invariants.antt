use Rattle.std.proofs.Common.{◌+◌, ◌*◌}
use Rattle.flow_ir.specs.declared.flow.Tree.{size-Tree}
use Rattle.flow_sink.proofs.Along.{Along}
use Rattle.flow_sink.proofs.trees.+sharing.Given as goal

abbrev pub invariant-shared_steps-spine : goal.invariant-shared_steps-spine
invariant-shared_steps-spine l = Along l.t l.cur l.initial.steps.items l.steps.items l.initial.above.items l.above.items

abbrev pub decreases-shared_steps-spine : goal.decreases-shared_steps-spine
decreases-shared_steps-spine l = size-Tree l.cur

abbrev pub decreases-shared_steps : goal.decreases-shared_steps
decreases-shared_steps l = 2 * size-Tree l.t.now

abbrev pub decreases-shared : goal.decreases-shared
decreases-shared l = 2 * size-Tree l.t.now + 1
