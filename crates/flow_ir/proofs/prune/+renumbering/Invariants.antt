use Rattle.std.proofs.Common.{◌+◌, ◌*◌}
use Rattle.std.specs.Prelude.{slice_index_or}
use Rattle.flow_ir.specs.declared.flow.Tree.{size-Tree}
use Rattle.flow_ir.proofs.Renumbering.{Made}
use Rattle.flow_ir.proofs.prune.+renumbering.Given as goal

abbrev pub invariant-renumbered_steps-spine : goal.invariant-renumbered_steps-spine
invariant-renumbered_steps-spine l = Made (λ i. slice_index_or l.to i 0) l.t l.cur l.initial.steps.items l.steps.items

abbrev pub decreases-renumbered_steps-spine : goal.decreases-renumbered_steps-spine
decreases-renumbered_steps-spine l = size-Tree l.cur

abbrev pub decreases-renumbered_steps : goal.decreases-renumbered_steps
decreases-renumbered_steps l = 2 * size-Tree l.t.now

abbrev pub decreases-renumbered : goal.decreases-renumbered
decreases-renumbered l = 2 * size-Tree l.t.now + 1
