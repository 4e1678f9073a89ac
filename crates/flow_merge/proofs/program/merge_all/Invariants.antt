use Rattle.std.proofs.Common.{map}
use Rattle.flow_ir.specs.View.{label_view}
use Rattle.flow_merge.proofs.Whole.{Rounds}
use Rattle.flow_merge.proofs.program.merge_all.Given as goal

abbrev pub invariant-rounds : goal.invariant-rounds
invariant-rounds l = Rounds (map label_view l.f.labels.items) (map label_view l.g.labels.items)
