use Rattle.std.proofs.Common.{◌≡◌, ◌∙◌, map, ap, nat_eq}
use Rattle.std.specs.HashMap.{get}
use Rattle.std.specs.List.{flat_map}
use Rattle.ssu_ir.specs.Points.{points}
use Rattle.ssu_ir.specs.View.{labels_view}
use Rattle.place_plan.specs.Uses as pure
use Rattle.ssu_liveness.specs.inner.Live.{value_by}
use Rattle.place_plan.specs.inner.Parts.{gather}
use Rattle.place_plan.specs.inner.UseViews.{use_view}
use Rattle.place_plan.proofs.Named.{points-named}
use Rattle.bank_prog_form.specs.Columns.{origin_in}
use Rattle.bank_prog_form.specs.inner.Form as form
use Rattle.bank_prog_form.specs.inner.Form.{summary_view, value_view, access_view, part_values, part_uses, part_accesses, parts_at, used_by}
use Rattle.bank_prog_form.proofs.Tabled.{parts-gathered, values-parts, uses-parts, accesses-parts, users-found}
use Rattle.bank_prog_form.proofs.tables.tables_of.Goals as goal

pub returns : goal.returns
returns c =
    let labels = labels_view c.args.s.now in
    let of = value_by (get nat_eq c.args.copies.now) in
    let named = points-named c.args.s.now (get nat_eq c.args.copies.now) c.requires.single c.requires.copies in
    let summaries : map summary_view c.in_ok-summaries.summaries.items ≡ form.parts labels =
    c.in_ok-summaries.ensures ∙ ap (gather (parts_at of) 0) c.requires.point_ids ∙ parts-gathered of 0 (points labels) named in
    let values : map value_view c.in_ok-values.values.items ≡ pure.values labels =
    c.in_ok-values.ensures ∙ ap (flat_map part_values) (ap (map summary_view) c.deref.ensures.value ∙ summaries) ∙ values-parts labels in
    let uses : map use_view c.in_ok-uses.uses.items ≡ pure.uses labels =
    c.in_ok-uses.ensures ∙ ap (flat_map part_uses) (ap (map summary_view) c.deref-2.ensures.value ∙ summaries) ∙ uses-parts labels in
    let accesses : map access_view c.in_ok-accesses.accesses.items ≡ pure.accesses labels =
    c.in_ok-accesses.ensures ∙ ap (flat_map part_accesses) (ap (map summary_view) c.deref-3.ensures.value ∙ summaries) ∙ accesses-parts labels in
    record {
      summaries = summaries;
      values = values;
      uses = uses;
      accesses = accesses;
      origins = λ x. c.in_ok-origins.ensures x ∙ ap (λ vs. origin_in vs x) (ap (map value_view) c.deref-4.ensures.value ∙ values);
      users = λ x. c.in_ok-users.ensures x ∙ ap (flat_map (used_by x)) (ap (map use_view) c.deref-5.ensures.value ∙ uses) ∙ users-found labels x;
    }
