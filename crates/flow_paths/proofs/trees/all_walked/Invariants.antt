use Rattle.std.proofs.Common.{◌≡◌, map, take}
use Rattle.flow_ir.specs.View.{label_view}
use Rattle.flow_paths.specs.inner.Walked.{label_walked}
use Rattle.flow_paths.proofs.trees.all_walked.Given as goal

abbrev pub invariant-loop-l : goal.invariant-loop-l
invariant-loop-l l = map label_view l.v.items ≡ map label_walked (map label_view (take l.l-index l.labels))
