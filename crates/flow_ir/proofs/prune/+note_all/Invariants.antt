use Rattle.flow_ir.specs.View.{tree_view}
use Rattle.flow_ir.specs.Reachable.{GoesTo}
use Rattle.flow_ir.specs.inner.Pruned.{Noted}
use Rattle.flow_ir.proofs.Noting.{Passing}
use Rattle.flow_ir.proofs.prune.+note_all.Given as goal

abbrev pub invariant-spine : goal.invariant-spine
invariant-spine l = Passing l.t l.cur × Noted (GoesTo (tree_view l.t)) l.initial.out.items l.out.items l.initial.pending.items l.pending.items
