use Rattle.std.proofs.Common.{◌∙◌, ap, subst, length, arith}
use Rattle.std.proofs.lemmas.List.{length-map}
use Rattle.ssu_ir.specs.View.{labels_view}
use Rattle.place_plan.specs.Plan.{plan_view}
use Rattle.ucode_emit.specs.inner.Marks.{Mark, marks, place_moves}
use Rattle.ucode_emit.specs.Emits.{IsSequence}
use Rattle.ucode_emit.specs.inner.EmittedPoints.{point_mark}
use Rattle.ucode_emit.specs.inner.Walk.{moves_of}
use Rattle.ucode_emit.proofs.Cursored.{served_start, uses_by_marks}
use Rattle.ucode_emit.proofs.Sequenced.{spot_within, spot_comes, below_marks, mark_here, so_far_none, so_far_more, so_far_all, moves_push}
use Rattle.ucode_emit.proofs.sequences.sequences_of.Goals as goal

pub loop-k-init : goal.loop-k-init
loop-k-init c =
    let view = labels_view c.args.s.now in
    let p = plan_view c.args.p.now in
    record {
      so_far = so_far_none view p (moves_of c.new-sequences.result.items) (ap moves_of c.new-sequences.ensures.items);
      served = served_start p.serves (marks view) (c.requires.placed.fits.serves ∙ uses_by_marks view);
    }

pub take_serves-serves-requires : goal.take_serves-serves-requires
take_serves-serves-requires c =
    spot_within c.args.s.now (plan_view c.args.p.now) c.args.point_ids.now c.loop-k.k c.loop-k.at c.in_ok-n.n c.deref.result.now c.requires.point_ids (omega arith) c.loop-k.invariant.served c.in_ok-n.ensures c.deref.ensures.value

pub sequence_point-requires-clause-few : goal.sequence_point-requires-clause-few
sequence_point-requires-clause-few c =
    (spot_comes c.args.s.now (plan_view c.args.p.now) c.args.point_ids.now c.loop-k.k c.loop-k.at c.take_serves-serves.new.at c.in_ok-n.n c.take_serves-serves.result.now c.deref.result.now c.requires.placed c.requires.point_ids (omega arith)
    c.loop-k.invariant.served c.in_ok-n.ensures c.take_serves-serves.ensures.next c.deref.ensures.value c.take_serves-serves.ensures.value).few

pub sequence_point-requires-clause-targets : goal.sequence_point-requires-clause-targets
sequence_point-requires-clause-targets c =
    (spot_comes c.args.s.now (plan_view c.args.p.now) c.args.point_ids.now c.loop-k.k c.loop-k.at c.take_serves-serves.new.at c.in_ok-n.n c.take_serves-serves.result.now c.deref.result.now c.requires.placed c.requires.point_ids (omega arith)
    c.loop-k.invariant.served c.in_ok-n.ensures c.take_serves-serves.ensures.next c.deref.ensures.value c.take_serves-serves.ensures.value).targets

pub sequence_point-requires-clause-spare : goal.sequence_point-requires-clause-spare
sequence_point-requires-clause-spare c =
    (spot_comes c.args.s.now (plan_view c.args.p.now) c.args.point_ids.now c.loop-k.k c.loop-k.at c.take_serves-serves.new.at c.in_ok-n.n c.take_serves-serves.result.now c.deref.result.now c.requires.placed c.requires.point_ids (omega arith)
    c.loop-k.invariant.served c.in_ok-n.ensures c.take_serves-serves.ensures.next c.deref.ensures.value c.take_serves-serves.ensures.value).spare

pub loop-k-preserved : goal.loop-k-preserved
loop-k-preserved c =
    let s = c.args.s.now in
    let view = labels_view s in
    let p = plan_view c.args.p.now in
    let k = c.loop-k.k in
    let point_ids = c.args.point_ids.now in
    let within = below_marks s point_ids k c.requires.point_ids (omega arith) in
    let new = c.in_ok-sequence_point.field-0 in
    let x = spot_comes s p point_ids k c.loop-k.at c.take_serves-serves.new.at c.in_ok-n.n c.take_serves-serves.result.now c.deref.result.now c.requires.placed c.requires.point_ids (omega arith)
    c.loop-k.invariant.served c.in_ok-n.ensures c.take_serves-serves.ensures.next c.deref.ensures.value c.take_serves-serves.ensures.value in
    let emit_context = ap (λ (q : Mark). place_moves p k q.place) (mark_here s point_ids k c.requires.point_ids (omega arith)) in
    record {
      so_far = so_far_more view p k (moves_of c.loop-k.sequences.items) (moves_of c.push.new.self.items) new.items within c.loop-k.invariant.so_far
          (moves_push c.loop-k.sequences.items c.push.new.self.items new c.in_ok-push.ensures.items)
          (subst (λ ms. IsSequence ms new.items) (x.ends_ ∙ emit_context) c.in_ok-sequence_point.ensures);
      served = x.next;
    }

pub returns : goal.returns
returns c =
    let s = c.args.s.now in
    let view = labels_view s in
    let many = length-map c.args.point_ids.now (point_mark s) in
    let same = ap length c.requires.point_ids in
    so_far_all view (plan_view c.args.p.now) c.loop-k.k (moves_of c.loop-k.sequences.items) (omega (arith, many, same)) c.loop-k.invariant.so_far
