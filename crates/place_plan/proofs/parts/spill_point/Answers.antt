use Rattle.std.proofs.Common.{◌≡◌, ℕ, [], length, refl, ap, sym, subst, ◌∙◌}
use Rattle.std.specs.Prelude.{slice_get}
use Rattle.std.proofs.lemmas.Bool.{ltb-false}
use Rattle.std.proofs.lemmas.Option.{slice_get_read, slice_get_past}
use Rattle.ssu_ir.specs.declared.ssu.Ssu.{Ssu}
use Rattle.ssu_ir.specs.Points.{PointKind, Entry, At}
use Rattle.ssu_ir.specs.View.{labels_view}
use Rattle.place_plan.specs.inner.Parts.{Adds}
use Rattle.ssu_liveness.specs.inner.PointIds.{kind_of_point, slot_node, params_of}
use Rattle.place_plan.proofs.PartSteps.{nothing-there}
use Rattle.ssu_liveness.proofs.RowSteps.{on-ok}
use Rattle.place_plan.proofs.parts.spill_point.Goals as goal

pub returns-in-Some : goal.returns-in-Some
returns-in-Some c =
    let s = c.args.s.now in
    let l = c.in-Entry.l in
    let ls = c.deref.result.now in
    let old = c.args.parts.now in
    let new = c.spill_entry.new.parts in
    let params = c.deref-in-Some.result.now in
    let there = slice_get_read ls (length ls) l c.in-Some.label.now refl c.in-Some.ensures.lookup.3.0 c.in-Some.ensures.lookup.1 in
    let here : Entry l params ≡ kind_of_point s c.args.point_id =
    ap (Entry l) c.deref-in-Some.ensures.value ∙ ap (λ o. Entry l (params_of o)) (sym there ∙ ap (λ xs. slice_get xs l) c.deref.ensures.value) ∙ ap (kind_of_point s) (sym c.in-Entry.is) in
    on-ok c.spill_entry.result ((t : Ssu) (k : ℕ) → Adds (labels_view t) c.args.given.now c.args.point (Entry k params) old new) (Adds (labels_view s) c.args.given.now c.args.point (kind_of_point s c.args.point_id) old new)
    (λ h. subst (λ (q : PointKind). Adds (labels_view s) c.args.given.now c.args.point q old new) here (h s l))
    c.spill_entry.ensures

pub returns-in-None : goal.returns-in-None
returns-in-None c =
    let s = c.args.s.now in
    let l = c.in-Entry.l in
    let ls = c.deref.result.now in
    let old = c.args.parts.now in
    let new = c.spill_entry-in-None.new.parts in
    let there = slice_get_past ls l (ltb-false l (length ls) (sym c.in-None.ensures.lookup.0)) in
    let here : Entry l [] ≡ kind_of_point s c.args.point_id = ap (λ o. Entry l (params_of o)) (sym there ∙ ap (λ xs. slice_get xs l) c.deref.ensures.value) ∙ ap (kind_of_point s) (sym c.in-Entry.is) in
    on-ok c.spill_entry-in-None.result ((t : Ssu) (k : ℕ) → Adds (labels_view t) c.args.given.now c.args.point (Entry k []) old new) (Adds (labels_view s) c.args.given.now c.args.point (kind_of_point s c.args.point_id) old new)
    (λ h. subst (λ (q : PointKind). Adds (labels_view s) c.args.given.now c.args.point q old new) here (h s l))
    c.spill_entry-in-None.ensures

pub returns-in-None-get : goal.returns-in-None-get
returns-in-None-get c =
    let s = c.args.s.now in
    let old = c.args.parts.now in
    let new = c.spill_entry-in-None-get.new.parts in
    on-ok c.spill_entry-in-None-get.result ((t : Ssu) (k : ℕ) → Adds (labels_view t) c.args.given.now c.args.point (Entry k []) old new) (Adds (labels_view s) c.args.given.now c.args.point (kind_of_point s c.args.point_id) old new)
    (λ h. nothing-there (labels_view s) c.args.given.now c.args.point 0 (kind_of_point s c.args.point_id) old new (ap (kind_of_point s) c.in-Node.is ∙ ap (λ o. At (slot_node o)) (sym c.in-None-get.ensures)) (h s 0))
    c.spill_entry-in-None-get.ensures
