use Rattle.std.proofs.Common.{map}
use Rattle.nv_base.specs.Meanings.{KeepsOutcomes}
use Rattle.flow_ir.specs.Meaning.{flow_meaning, flow_params}
use Rattle.flow_ir.specs.View.{label_view}
use Rattle.nova_middle.specs.Reduced.{AreReduced}
use Rattle.nova_middle.proofs.improve.improved.Given as goal

abbrev pub invariant-rounds : goal.invariant-rounds
invariant-rounds l =
    KeepsOutcomes (flow_params (map label_view l.f.labels.items)) (flow_params (map label_view l.g.labels.items)) (flow_meaning (map label_view l.f.labels.items)) (flow_meaning (map label_view l.g.labels.items))
    × AreReduced (map label_view l.g.labels.items)
