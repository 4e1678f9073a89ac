use Rattle.flow_merge.specs.inner.Pruned.{gone_of}
use Rattle.flow_merge.proofs.Cutting.{Cut}
use Rattle.std.proofs.Common.{map}
use Rattle.flow_ir.specs.View.{label_view}
use Rattle.flow_merge.proofs.pruning.+pruned.Given as goal

abbrev pub invariant-spine : goal.invariant-spine
invariant-spine l = Cut (map label_view l.labels) (gone_of l.table) l.t l.cur l.steps.items
