use Rattle.std.proofs.Common.{sym, subst, All, arith}
use Rattle.std.specs.Prelude.{reverse}
use Rattle.std.proofs.lemmas.List.Elements.{All-append, All-push}
use Rattle.ssu_ir.specs.View.{labels_view}
use Rattle.ucode_emit.specs.declared.point_ids.EmittedPoint.TheVariants.{Entry as EntrySpot}
use Rattle.ucode_emit.specs.inner.Marks.{marks}
use Rattle.ucode_emit.specs.inner.EmittedPoints.{IsEmittedPoint}
use Rattle.ucode_emit.proofs.Spotted.{label_more, labels_done, some_label, all_reverse}
use Rattle.ucode_emit.proofs.point_ids.point_ids_of.Goals as goal

pub loop-l-preserved : goal.loop-l-preserved
loop-l-preserved c =
    let s = c.args.s.now in
    let stack = c.in_ok-label_point_ids.field-0.items in
    let pushed = c.push.new.self.items in
    let new = c.unstack.new.point_ids.items in
    let emit_context = some_label s.labels.items c.loop-l.l (omega (arith, s.labels.ok.0)) in
    record {
      marks_ = label_more s c.loop-l.l emit_context c.loop-l.point_ids.items pushed new stack (marks (labels_view s))
          (omega (arith, s.labels.ok.0)) c.in_ok-push.ensures.items c.in_ok-label_point_ids.ensures.marks c.in_ok-unstack.ensures c.loop-l.invariant.marks_;
      there = subst (λ xs. All (IsEmittedPoint s) xs) (sym c.in_ok-unstack.ensures)
          (All-append (IsEmittedPoint s) pushed (reverse stack)
          (subst (λ xs. All (IsEmittedPoint s) xs) (sym c.in_ok-push.ensures.items) (All-push (IsEmittedPoint s) c.loop-l.point_ids.items (EntrySpot c.loop-l.l) c.loop-l.invariant.there (omega (arith, s.labels.ok.0))))
          (all_reverse (IsEmittedPoint s) stack c.in_ok-label_point_ids.ensures.there));
    }

pub returns-clause-marks : goal.returns-clause-marks
returns-clause-marks c =
    let s = c.args.s.now in
    labels_done s c.loop-l.l c.loop-l.point_ids.items (marks (labels_view s)) (omega (arith, s.labels.ok.0)) c.loop-l.invariant.marks_
