use Rattle.std.proofs.Common.{◌≤◌, All}
use Rattle.flow_ir.specs.View.{tree_view}
use Rattle.flow_ir.specs.declared.flow.Tree.{size-Tree}
use Rattle.nova_middle.specs.inner.Parts.{Chain}
use Rattle.ssu_make.specs.inner.Making.{tops}
use Rattle.nova_middle.proofs.places.spine.Given as goal

abbrev pub invariant-spine : goal.invariant-spine
invariant-spine l = Chain (tree_view l.cur) (tops l.nodes.items) (tree_view l.t) × All (λ s. size-Tree s.now ≤ size-Tree l.t) l.nodes.items × (size-Tree l.cur ≤ size-Tree l.t)

abbrev pub decreases-spine : goal.decreases-spine
decreases-spine l = size-Tree l.cur
