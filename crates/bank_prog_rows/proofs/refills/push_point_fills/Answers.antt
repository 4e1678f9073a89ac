use Rattle.std.proofs.Common.{◌≡◌, ◌∙◌, ap, map}
use Rattle.std.specs.HashMap.{get}
use Rattle.std.specs.List.{flat_map}
use Rattle.ssu_ir.specs.View.{labels_view}
use Rattle.place_plan.specs.Uses as pure
use Rattle.ssu_liveness.proofs.RowSteps.{on-ok}
use Rattle.bank_prog_form.specs.Program.{same_column}
use Rattle.bank_prog_form.specs.Rows.{access_owners}
use Rattle.bank_prog_form.specs.inner.Form.{value_view, access_view}
use Rattle.bank_prog_form.specs.inner.Owners.{other}
use Rattle.bank_prog_form.proofs.Loops.{adds-as}
use Rattle.bank_prog_rows.proofs.refills.push_point_fills.Goals as goal

pub returns : goal.returns
returns c =
    let labels = labels_view c.args.f.now.ssu.now in
    let kept : c.deref-2.result.now ≡ flat_map (other (map (λ (v : pure.Value). v.var) (map value_view c.args.summary.now.values.items))) c.args.next.now =
    c.deref-2.ensures.value ∙ c.in_ok-xs.ensures ∙ ap (λ vs. flat_map (other (map (λ (v : pure.Value). v.var) (map value_view vs))) c.args.next.now) c.deref.ensures.value in
    on-ok c.push_reads.result _ _
    (λ h. adds-as (get same_column c.args.numbers.now) c.args.rows.now.items c.push_reads.new.rows.items _ _ h
    (ap (λ xs. flat_map (access_owners labels xs) (map access_view c.deref-3.result.now)) kept
    ∙ ap (λ as'. flat_map (access_owners labels (flat_map (other (map (λ (v : pure.Value). v.var) (map value_view c.args.summary.now.values.items))) c.args.next.now)) (map access_view as')) c.deref-3.ensures.value))
    c.push_reads.ensures
