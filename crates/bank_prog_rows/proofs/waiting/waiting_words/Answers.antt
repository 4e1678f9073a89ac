use Rattle.std.proofs.Common.{◌≡◌, ◌∙◌, nat_eq, ap, sym, map, length}
use Rattle.std.proofs.lemmas.List.{length-map}
use Rattle.std.proofs.lemmas.Result.{IfOk-weaker}
use Rattle.std.specs.HashMap.{get}
use Rattle.std.specs.List.{flat_map}
use Rattle.std.specs.declared.vec.Vec.{Vec}
use Rattle.std.specs.declared.alloc.Global.{Global}
use Rattle.ssu_ir.specs.Points.{points}
use Rattle.ssu_ir.specs.View.{labels_view}
use Rattle.place_plan.specs.Uses as pure
use Rattle.ssu_liveness.specs.inner.PointIds.{kind_of_point}
use Rattle.ssu_liveness.proofs.Covering.{once-at-points}
use Rattle.place_plan.specs.declared.uses.Use.{Use}
use Rattle.place_plan.specs.inner.UseViews.{use_view}
use Rattle.bank_prog_form.specs.inner.Form.{value_view, summary_view}
use Rattle.bank_prog_rows.specs.inner.Waiting.{each_waiting, lists_of, all_waiting, point_in, written_only}
use Rattle.bank_prog_rows.proofs.Waits.{all-words, each-written, length-parts}
use Rattle.bank_prog_rows.proofs.waiting.waiting_words.Goals as goal

pub returns : goal.returns
returns c =
    let labels = labels_view c.args.f.now.ssu.now in
    let right = c.args.f.now.right in
    let below = c.deref-4.result.now in
    let point = get nat_eq c.in_ok-defined.defined in
    let summaries = c.deref-6.result.now in
    let written : map use_view c.deref-5.result.now ≡ flat_map written_only (pure.uses labels) =
    ap (map use_view) c.deref-5.ensures.value ∙ c.in_ok-written.ensures ∙ ap (flat_map written_only) (ap (map use_view) c.deref-3.ensures.value ∙ right.uses) in
    let many : length summaries ≡ length (points labels) = ap length c.deref-6.ensures.value ∙ sym (length-map c.args.f.now.tables.summaries.items summary_view) ∙ ap length right.summaries ∙ length-parts 0 (points labels) in
    IfOk-weaker c.words_of_points.result (λ (v : Vec (Vec Use Global) Global). lists_of v.items ≡ each_waiting below point (map use_view c.deref-5.result.now) 0 summaries) (λ (v : Vec (Vec Use Global) Global). lists_of v.items ≡ all_waiting labels)
    (λ v h. h ∙ ap (λ us. each_waiting below point us 0 summaries) written ∙ each-written below point (pure.uses labels) 0 summaries
    ∙ all-words labels below point summaries many (once-at-points c.args.f.now.ssu.now c.requires.single) (c.deref-4.ensures.value ∙ c.in_ok-below.ensures)
    (λ x. c.in_ok-defined.ensures x ∙ ap (λ vs. point_in vs x) (ap (map value_view) c.deref-2.ensures.value ∙ right.values)))
    c.words_of_points.ensures

pub counts_below-requires : goal.counts_below-requires
counts_below-requires c = ap (map (kind_of_point c.args.f.now.ssu.now)) c.deref.ensures.value ∙ c.args.f.now.in_order
