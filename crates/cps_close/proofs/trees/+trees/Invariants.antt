use Rattle.std.proofs.Common.{◌+◌, ◌*◌}
use Rattle.cps_ir.specs.declared.term.Term.{size-Term}
use Rattle.cps_close.specs.inner.View.{table_view}
use Rattle.cps_close.proofs.Along.{On}
use Rattle.cps_close.proofs.trees.+trees.Given as goal

abbrev pub invariant-tree_steps-spine : goal.invariant-tree_steps-spine
invariant-tree_steps-spine l = On (table_view l.table) l.t l.cur l.initial.steps.items l.steps.items

abbrev pub decreases-tree_steps-spine : goal.decreases-tree_steps-spine
decreases-tree_steps-spine l = size-Term l.cur

abbrev pub decreases-tree_steps : goal.decreases-tree_steps
decreases-tree_steps l = 2 * size-Term l.t.now

abbrev pub decreases-tree_of : goal.decreases-tree_of
decreases-tree_of l = 2 * size-Term l.t.now + 1
