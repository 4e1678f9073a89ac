use Rattle.std.proofs.Common.{map, get_or, sym, ap, ◌∙◌}
use Rattle.ssu_ir.specs.View.{labels_view}
use Rattle.ssu_liveness.specs.inner.PointIds.{kind_of_point}
use Rattle.ssu_liveness.proofs.Kept.{length-view}
use Rattle.place_weights.specs.Weighted.{weight_of}
use Rattle.bank_prog_form.specs.inner.Form.{value_view}
use Rattle.bank_prog.specs.Weighted.{point_in}
use Rattle.bank_prog.specs.inner.Located.{labels_behind}
use Rattle.bank_prog.proofs.PointLabels.{point-weights}
use Rattle.bank_prog.proofs.weighing.locate.Goals as goal

pub returns-clause-located : goal.returns-clause-located
returns-clause-located c =
    let s = c.args.f.now.ssu.now in
    let labels = labels_view s in
    let ws = c.args.w.now in record {
      weights = λ k.
          ap (λ found. get_or found k c.of.result)
          (c.in_ok-weights_of_points.ensures s ∙ ap (λ point_ids. map (weight_of ws) (labels_behind 0 (map (kind_of_point s) point_ids))) c.deref.ensures.value ∙ ap (λ qs. map (weight_of ws) (labels_behind 0 qs)) c.args.f.now.in_order)
          ∙ point-weights labels ws k c.of.result (c.of.ensures.weight ∙ ap (weight_of ws) (c.in_ok-short.ensures ∙ c.len.ensures ∙ c.args.f.now.ssu.now.labels.ok.0 ∙ sym (length-view s)));
      points = λ x. c.in_ok-defining_points.ensures x ∙ ap (λ vs. point_in (map value_view vs) x) c.deref-2.ensures.value ∙ ap (λ vs. point_in vs x) c.args.f.now.right.values;
    }
