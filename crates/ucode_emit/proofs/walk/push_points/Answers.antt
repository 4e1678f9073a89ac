use Rattle.std.proofs.Common.{ap, sym, subst, length, ◌∙◌, arith}
use Rattle.ssu_ir.specs.View.{labels_view}
use Rattle.place_plan.specs.declared.place.First.{First}
use Rattle.place_plan.specs.declared.place.Pass.{Pass}
use Rattle.place_plan.specs.Fits.{Rises}
use Rattle.place_plan.specs.Plan.{plan_view}
use Rattle.ucode_emit.specs.inner.Marks.{marks}
use Rattle.ucode_emit.specs.inner.Walk.{moves_of}
use Rattle.ucode_emit.proofs.Cursored.{served_start, uses_by_marks, cut_start, accesses_rise}
use Rattle.ucode_emit.proofs.Sequenced.{below_marks}
use Rattle.ucode_emit.proofs.Walked.{drafted_none, drafted_more}
use Rattle.ucode_emit.proofs.walk.push_points.Goals as goal

pub loop-k-init : goal.loop-k-init
loop-k-init c =
    let labels = labels_view c.args.s.now in
    let p = plan_view c.args.p.now in
    let fits = c.requires.placed.fits in
    record {
      drafted = drafted_none labels p (moves_of c.args.points.now.sequences.items) c.args.code.now c.new-places.result.items c.requires.empty c.new-places.ensures.items;
      emit_context = record {
        serves = served_start p.serves (marks labels) (fits.serves ∙ uses_by_marks labels);
        firsts = cut_start (λ (f : First). f.point) p.firsts (subst Rises (sym fits.firsts) (accesses_rise labels));
        passes = cut_start (λ (q : Pass). q.point) p.passes fits.passes.rise;
      };
    }

pub loop-k-preserved : goal.loop-k-preserved
loop-k-preserved c =
    let s = c.args.s.now in
    let points = c.args.points.now in
    let k = c.loop-k.k in
    let within = below_marks s points.point_ids.items k c.requires.known.point_ids (omega (arith, points.point_ids.ok.0)) in
    record {
      drafted = drafted_more (labels_view s) (plan_view c.args.p.now) (moves_of points.sequences.items) k c.loop-k.code c.push_point.new.code c.loop-k.places.items c.push.new.self.items c.in_ok-point_number.field-0 within
          c.loop-k.invariant.drafted c.in_ok-push_point.ensures.code (c.in_ok-point_number.ensures ∙ ap length c.list.ensures) c.in_ok-push.ensures.items;
      emit_context = c.in_ok-push_point.ensures.cursor;
    }
