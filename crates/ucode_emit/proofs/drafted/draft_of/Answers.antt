use Rattle.std.proofs.Common.{◌≡◌, map, slice_index_or, ap, ◌∙◌}
use Rattle.ssu_ir.specs.View.{labels_view}
use Rattle.place_plan.specs.Plan.{plan_view}
use Rattle.ucode_emit.specs.inner.Walk.{moves_of}
use Rattle.ucode_emit.proofs.Drafting.{drafted_all, spots_many}
use Rattle.ucode_emit.proofs.drafted.draft_of.Goals as goal

pub returns : goal.returns
returns c =
    let labels = labels_view c.args.s.now in
    let p = plan_view c.args.p.now in
    let places = c.in_ok-places.places.items in
    let points = c.in_ok-points.points.entries.items in
    let begins : c.in_ok-starts.starts.items ≡ map (λ k. slice_index_or places k 0) points =
    c.in_ok-starts.ensures ∙ (ap (λ ps. map (λ k. slice_index_or ps k 0) c.deref.result.now) c.deref-2.ensures.value ∙ ap (map (λ k. slice_index_or places k 0)) c.deref.ensures.value) in
    drafted_all labels p (moves_of c.in_ok-points.points.sequences.items) _ _ places points c.in_ok-starts.starts.items c.in_ok-points.ensures.sequences (spots_many c.args.s.now c.in_ok-points.points.point_ids.items c.in_ok-points.ensures.point_ids)
    c.in_ok-points.ensures.entries begins c.in_ok-places.ensures
