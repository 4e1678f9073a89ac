use Rattle.std.proofs.Common.{◌∙◌, map, ap, arith}
use Rattle.ssu_ir.specs.Points.{points}
use Rattle.ssu_ir.specs.View.{labels_view}
use Rattle.ssu_ir.specs.Work.{nums}
use Rattle.ssu_liveness.proofs.SpotSteps.{some-label, label-behind, labels-behind}
use Rattle.ssu_liveness.proofs.point_ids.point_ids_of.Goals as goal

pub loop-k-preserved : goal.loop-k-preserved
loop-k-preserved c =
    let s = c.args.s.now in
    label-behind s c.loop-k.k (some-label s.labels.items c.loop-k.k (omega (arith, s.labels.ok.0))) c.loop-k.point_ids.items c.push.new.self.items c.push_nodes.new.point_ids.items c.deref.result.now
    (map (λ p. p.place) (points (labels_view s))) (omega (arith, s.labels.ok.0)) c.in_ok-push.ensures.items (ap nums c.deref.ensures.value ∙ c.in_ok-order.ensures) c.in_ok-push_nodes.ensures c.loop-k.invariant

pub returns : goal.returns
returns c =
    let s = c.args.s.now in
    labels-behind s c.loop-k.k c.loop-k.point_ids.items (map (λ p. p.place) (points (labels_view s))) (omega (arith, s.labels.ok.0)) c.loop-k.invariant
