use Rattle.std.proofs.Common.{map}
use Rattle.flow_ir.specs.View.{label_view}
use Rattle.nova_middle.proofs.Whole.{Reduced}
use Rattle.nova_middle.proofs.program.reduce.Given as goal

abbrev pub invariant-rounds : goal.invariant-rounds
invariant-rounds l = Reduced (map label_view l.f.labels.items) (map label_view l.g.labels.items)
