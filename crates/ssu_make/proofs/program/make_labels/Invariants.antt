use Rattle.std.proofs.Common.{map, take}
use Rattle.flow_ir.specs.View.{label_view}
use Rattle.ssu_make.proofs.Along.{LabelsOn}
use Rattle.ssu_make.proofs.program.make_labels.Given as goal

abbrev pub invariant-loop-l : goal.invariant-loop-l
invariant-loop-l l = LabelsOn (map label_view (take l.l-index l.labels)) l.v.items l.build l.fresh
