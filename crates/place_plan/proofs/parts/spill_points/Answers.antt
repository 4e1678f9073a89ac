use Rattle.std.proofs.Common.{get_or, subst, arith}
use Rattle.std.proofs.lemmas.List.{get_or_default}
use Rattle.ssu_ir.specs.View.{labels_view}
use Rattle.ssu_liveness.specs.declared.point_ids.PointId.TheVariants.{Entry}
use Rattle.place_plan.specs.inner.Parts.{Adds}
use Rattle.ssu_liveness.specs.inner.PointIds.{kind_of_point}
use Rattle.place_plan.proofs.Gathering.{parts-more}
use Rattle.place_plan.proofs.PartSteps.{point_id-short}
use Rattle.place_plan.proofs.parts.spill_points.Goals as goal

pub spill_point-requires : goal.spill_point-requires
spill_point-requires c = point_id-short c.args.s.now c.args.point_ids.now c.loop-k.k (Entry 0) c.requires (omega arith)

pub loop-k-preserved : goal.loop-k-preserved
loop-k-preserved c =
    let s = c.args.s.now in
    let labels = labels_view s in
    let given = c.args.given.now in
    let point_ids = c.args.point_ids.now in
    let k = c.loop-k.k in
    let x = get_or point_ids k (Entry 0) in
    parts-more s labels given point_ids k x c.loop-k.parts c.spill_point.new.parts (omega arith) (get_or_default point_ids k (Entry 0) x (omega arith))
    (subst (λ n. Adds labels given n (kind_of_point s x) c.loop-k.parts c.spill_point.new.parts) c.in_ok-point.ensures c.in_ok-spill_point.ensures)
    c.loop-k.invariant
