use Rattle.std.proofs.Common.{◌≡◌, map, take}
use Rattle.flow_ir.specs.View.{label_view}
use Rattle.flow_ir.specs.Wide.{wide}
use Rattle.nova_middle.proofs.places.wide.Given as goal

abbrev pub invariant-loop-l : goal.invariant-loop-l
invariant-loop-l l = l.most ≡ wide (map label_view (take l.l-index l.labels))
