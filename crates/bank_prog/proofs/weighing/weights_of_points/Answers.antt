use Rattle.std.proofs.Common.{◌++◌, [], ◌∷◌, map, ap, ◌∙◌, arith}
use Rattle.ssu_liveness.specs.inner.PointIds.{kind_of_point}
use Rattle.place_weights.specs.Weighted.{weight_of}
use Rattle.bank_prog.specs.inner.Located.{labels_behind}
use Rattle.bank_prog.proofs.PointLabels.{walk-more, walk-all}
use Rattle.bank_prog.proofs.weighing.weights_of_points.Goals as goal

pub loop-point_id-preserved : goal.loop-point_id-preserved
loop-point_id-preserved c = λ s.
    walk-more (weight_of c.args.w.now) (kind_of_point s) c.args.point_ids.now c.loop-point_id.point_id-index _ c.loop-point_id.label c.in_ok-label.label c.loop-point_id.weights.items c.push.new.self.items
    (map (weight_of c.args.w.now) (labels_behind 0 (map (kind_of_point s) c.args.point_ids.now))) (omega arith) (c.in_ok-label.ensures s)
    (c.in_ok-push.ensures.items ∙ ap (λ n. c.loop-point_id.weights.items ++ n ∷ []) c.of.ensures.weight) (c.loop-point_id.invariant s)

pub returns : goal.returns
returns c = λ s.
    walk-all (weight_of c.args.w.now) (kind_of_point s) c.args.point_ids.now c.loop-point_id.point_id-index c.loop-point_id.label c.loop-point_id.weights.items
    (map (weight_of c.args.w.now) (labels_behind 0 (map (kind_of_point s) c.args.point_ids.now))) (omega arith) (c.loop-point_id.invariant s)
