use Rattle.std.proofs.Common.{◌≡◌, ◌++◌, map, ap, sym, ◌∙◌, arith}
use Rattle.ssu_ir.specs.View.{labels_view}
use Rattle.place_plan.specs.declared.place.First.{First}
use Rattle.place_plan.specs.declared.place.Pass.{Pass}
use Rattle.place_plan.specs.Plan.{plan_view}
use Rattle.ssu_liveness.proofs.RowSteps.{on-ok}
use Rattle.ucode_emit.specs.inner.DraftItems.{draft}
use Rattle.ucode_emit.specs.inner.Marks.{point_piece}
use Rattle.ucode_emit.specs.Pieces.{sequence_at}
use Rattle.ucode_emit.specs.inner.EmittedPoints.{point_mark}
use Rattle.ucode_emit.specs.inner.Walk.{mark_at, moves_of, place_items}
use Rattle.ucode_emit.proofs.Sequenced.{below_marks}
use Rattle.ucode_emit.proofs.Walked.{mark_now, now_within, now_comes, now_here, now_can, now_same, cut_on, always, sequences_long, sequence_kept}
use Rattle.ucode_emit.proofs.walk.push_point.Goals as goal

pub take_serves-requires : goal.take_serves-requires
take_serves-requires c =
    now_within c.args.s.now (plan_view c.args.p.now) c.args.points.now c.args.k c.args.cursor.now.serves c.in_ok-n.n c.index-point_id.result.now c.deref-2.result.now c.requires.known c.requires.within c.index-point_id.ensures
    c.requires.cursor.serves c.in_ok-n.ensures c.deref-2.ensures.value

pub index-requires : goal.index-requires
index-requires c =
    let s = c.args.s.now in
    let points = c.args.points.now in
    let within = below_marks s points.point_ids.items c.args.k c.requires.known.point_ids c.requires.within in
    let long = sequences_long (labels_view s) (plan_view c.args.p.now) points.sequences.items c.requires.known.sequences in
    omega (arith, within, long, points.sequences.ok.0)

pub emit_point-requires-clause-emit_context : goal.emit_point-requires-clause-emit_context
emit_point-requires-clause-emit_context c =
    let s = c.args.s.now in
    let p = plan_view c.args.p.now in
    let point_id = c.index-point_id.result.now in
    let x = now_comes s p c.args.points.now c.args.k c.args.cursor.now.serves c.take_serves.new.at c.in_ok-n.n point_id c.take_serves.result.now c.deref-2.result.now c.requires.placed c.requires.known c.requires.within c.index-point_id.ensures
    c.requires.cursor.serves c.in_ok-n.ensures c.take_serves.ensures.next c.deref-2.ensures.value c.take_serves.ensures.value in
    now_here p (labels_view s) c.args.k c.args.cursor.now.serves c.take_serves.new.at c.in_ok-n.n c.in_ok-point.point c.take_first.result c.in_ok-to.to c.take_serves.result (point_mark s point_id) c.deref-5.result c.deref-3.result.now c.deref-4.result.now c.take_pass.result
    x c.in_ok-point.ensures c.take_first.ensures.value c.deref-3.ensures.value c.take_pass.ensures.value c.deref-4.ensures.value

pub emit_point-requires-clause-can : goal.emit_point-requires-clause-can
emit_point-requires-clause-can c =
    let s = c.args.s.now in
    let p = plan_view c.args.p.now in
    let points = c.args.points.now in
    let within = below_marks s points.point_ids.items c.args.k c.requires.known.point_ids c.requires.within in
    let long = sequences_long (labels_view s) p points.sequences.items c.requires.known.sequences in
    now_can s p points c.args.k c.in_ok-point.point (point_mark s c.index-point_id.result.now) c.deref-5.result.now c.requires.placed c.requires.known c.requires.within
    (mark_now s p points c.args.k c.index-point_id.result.now c.requires.known c.requires.within c.index-point_id.ensures) c.in_ok-point.ensures
    (c.deref-5.ensures.value ∙ sequence_kept points.sequences.items c.args.k c.index.result.now (omega (arith, within, long)) (sym c.index.ensures))

pub returns-clause-cursor : goal.returns-clause-cursor
returns-clause-cursor c =
    let s = c.args.s.now in
    let p = plan_view c.args.p.now in
    let point_id = c.index-point_id.result.now in
    let x = now_comes s p c.args.points.now c.args.k c.args.cursor.now.serves c.take_serves.new.at c.in_ok-n.n point_id c.take_serves.result.now c.deref-2.result.now c.requires.placed c.requires.known c.requires.within c.index-point_id.ensures
    c.requires.cursor.serves c.in_ok-n.ensures c.take_serves.ensures.next c.deref-2.ensures.value c.take_serves.ensures.value in
    always c.emit_point.result _ (record {
      serves = x.next;
      firsts = cut_on (λ (f : First). f.point) c.deref-3.result.now p.firsts c.take_first.new.at c.args.k c.in_ok-point.point c.take_first.ensures.next c.deref-3.ensures.value c.in_ok-point.ensures;
      passes = cut_on (λ (q : Pass). q.point) c.deref-4.result.now p.passes c.take_pass.new.at c.args.k c.in_ok-point.point c.take_pass.ensures.next c.deref-4.ensures.value c.in_ok-point.ensures;
    })

pub returns-clause-code : goal.returns-clause-code
returns-clause-code c =
    let s = c.args.s.now in
    let p = plan_view c.args.p.now in
    let points = c.args.points.now in
    let labels = labels_view s in
    let q = point_mark s c.index-point_id.result.now in
    let within = below_marks s points.point_ids.items c.args.k c.requires.known.point_ids c.requires.within in
    let long = sequences_long labels p points.sequences.items c.requires.known.sequences in
    let same = now_same s p points c.args.k c.in_ok-point.point c.in_ok-to.to q c.deref.result.now c.deref-5.result.now c.requires.placed c.requires.known c.requires.within
    (mark_now s p points c.args.k c.index-point_id.result.now c.requires.known c.requires.within c.index-point_id.ensures) c.in_ok-point.ensures
    (c.deref-5.ensures.value ∙ sequence_kept points.sequences.items c.args.k c.index.result.now (omega (arith, within, long)) (sym c.index.ensures)) c.deref.ensures.value c.in_ok-to.ensures in
    on-ok c.emit_point.result (c.emit_point.new.code ≡ c.args.code.now ++ map draft (place_items p c.in_ok-point.point c.in_ok-to.to c.deref-5.result.now q.place))
    (c.emit_point.new.code ≡ c.args.code.now ++ map draft (point_piece labels p c.args.k (mark_at labels c.args.k) (sequence_at (moves_of points.sequences.items) c.args.k)))
    (λ e. e ∙ ap (λ is. c.args.code.now ++ map draft is) same) c.emit_point.ensures
