use Rattle.std.proofs.Common.{map}
use Rattle.flow_ir.specs.View.{label_view}
use Rattle.nova_middle.proofs.Improved.{Equal}
use Rattle.nova_middle.proofs.improve.all_shared.Given as goal

abbrev pub invariant-rounds : goal.invariant-rounds
invariant-rounds l = Equal (map label_view l.f.labels.items) (map label_view l.g.labels.items)
