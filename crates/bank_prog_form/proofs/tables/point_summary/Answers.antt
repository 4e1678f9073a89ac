use Rattle.std.proofs.Common.{◌≡◌, ◌∙◌, ℕ, length, nat_eq, refl, sym, ap}
use Rattle.std.specs.Prelude.{slice_get}
use Rattle.std.specs.HashMap.{get}
use Rattle.std.proofs.lemmas.Option.{slice_get_read}
use Rattle.std.proofs.lemmas.Result.{IfOk-weaker}
use Rattle.ssu_ir.specs.Points.{Names, Entry}
use Rattle.ssu_liveness.specs.inner.Live.{value_by}
use Rattle.ssu_liveness.specs.inner.PointIds.{kind_of_point, params_of}
use Rattle.bank_prog_form.specs.declared.form.PointSummary.{PointSummary}
use Rattle.bank_prog_form.specs.inner.Form.{part_at, summary_view}
use Rattle.bank_prog_form.proofs.tables.point_summary.Goals as goal

pub returns-in_ok-short-in-Some : goal.returns-in_ok-short-in-Some
returns-in_ok-short-in-Some c =
    let s = c.args.s.now in
    let l = c.in-Entry.l in
    let ls = c.deref.result.now in
    let of = value_by (get nat_eq c.args.copies.now) in
    let params = c.deref-in-Some.result.now in
    let there = slice_get_read ls (length ls) l c.in-Some.label.now refl c.in-Some.ensures.lookup.3.0 c.in-Some.ensures.lookup.1 in
    let here : Entry c.in_ok-short-in-Some.field-0 params ≡ kind_of_point s c.args.point_id =
    ap (λ (k : ℕ). Entry k params) c.in_ok-short-in-Some.ensures ∙ ap (Entry l) c.deref-in-Some.ensures.value
    ∙ ap (λ o. Entry l (params_of o)) (sym there ∙ ap (λ xs. slice_get xs l) c.deref.ensures.value) ∙ ap (kind_of_point s) (sym c.in-Entry.is) in
    IfOk-weaker c.entry_summary.result (λ (t : PointSummary). (of : Names) → summary_view t ≡ part_at of c.args.k (Entry c.in_ok-short-in-Some.field-0 params)) (λ (t : PointSummary). summary_view t ≡ part_at of c.args.k (kind_of_point s c.args.point_id))
    (λ t h. h of ∙ ap (part_at of c.args.k) here) c.entry_summary.ensures
