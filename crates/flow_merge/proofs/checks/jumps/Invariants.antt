use Rattle.std.proofs.Common.{map, length, take}
use Rattle.flow_ir.specs.View.{label_view}
use Rattle.flow_merge.proofs.Testing.{AreCounted}
use Rattle.flow_merge.proofs.checks.jumps.Given as goal

abbrev pub invariant-loop-l : goal.invariant-loop-l
invariant-loop-l l = AreCounted l.counts.items (length l.labels) (map label_view (take l.l-index l.labels))
