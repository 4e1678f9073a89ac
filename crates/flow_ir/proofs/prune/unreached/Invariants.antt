use Rattle.std.proofs.Common.{All, map}
use Rattle.flow_ir.specs.View.{label_view}
use Rattle.flow_ir.specs.Reachable.{IsReachable}
use Rattle.flow_ir.specs.inner.Pruned.{AreLed}
use Rattle.flow_ir.proofs.prune.unreached.Given as goal

abbrev pub invariant-loop : goal.invariant-loop
invariant-loop l = AreLed (map label_view l.labels) l.out.items × All (IsReachable (map label_view l.labels)) l.pending.items
