use Rattle.std.proofs.Common.{List, map, refl, ap, ◌∙◌}
use Rattle.std.specs.List.{flat_map}
use Rattle.bank_prog_form.specs.declared.form.Value.{Value}
use Rattle.bank_prog_form.specs.declared.form.Access.{Access}
use Rattle.place_plan.specs.declared.uses.Use.{Use}
use Rattle.place_plan.specs.inner.UseViews.{use_view}
use Rattle.bank_prog_form.specs.declared.form.PointSummary.{PointSummary}
use Rattle.bank_prog_form.specs.inner.Form.{value_view, access_view, summary_view}
use Rattle.reg_assign_reading.specs.ReadOff.{access_first, use_serve}
use Rattle.reg_assign.specs.inner.AssignmentInputs.{labels_in, says_in, numbers_in}
use Rattle.reg_assign_reading.specs.inner.Reading.{preferred_home, part_pass}
use Rattle.reg_assign.proofs.Placed.{is-read-off}
use Rattle.reg_assign.proofs.assigned.placed.Goals as goal

pub returns : goal.returns
returns c =
    let labels = labels_in c.args.g.now in
    let on = says_in c.args.g.now in
    let numbers = numbers_in c.args.g.now in
    is-read-off c.args.g.now c.args.slots c.in_ok-homes_of.field-0.items
    (record { slots = c.args.slots; homes = c.by_variable-homes.result; firsts = c.in_ok-firsts_of.field-0; serves = c.in_ok-serves_of.field-0; passes = c.in_ok-passes_of.field-0 })
    c.requires refl (c.in_ok-homes_of.ensures ∙ ap (λ (l : List Value). flat_map (preferred_home labels on numbers) (map value_view l)) c.deref.ensures.value) c.by_variable-homes.ensures.same c.by_variable-homes.ensures.sorted
    (c.in_ok-firsts_of.ensures ∙ ap (λ (l : List Access). map (access_first on) (map access_view l)) c.deref-2.ensures.value)
    (c.in_ok-serves_of.ensures ∙ ap (λ (l : List Use). map (use_serve labels on numbers) (map use_view l)) c.deref-3.ensures.value)
    (c.in_ok-passes_of.ensures ∙ ap (λ (l : List PointSummary). flat_map (part_pass on) (map summary_view l)) c.deref-4.ensures.value)
