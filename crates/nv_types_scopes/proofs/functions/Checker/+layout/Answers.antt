use Rattle.std.proofs.Common.{◌≡◌, ◌∙◌, ◌≤◌, ℕ, List, refl, ap, sym, subst, length, arith, Err}
use Rattle.std.proofs.lemmas.List.{take_all}
use Rattle.std.proofs.lemmas.Result.{err_from_is_err_and}
use Rattle.nv_ast.specs.declared.tree.LayoutText.{LayoutText}
use Rattle.nv_ast.specs.Tree.{NamedLayout, GapLayout, PartsLayout, JoinedLayout, BitsField, InnerField, OverlayField}
use Rattle.nv_ast.specs.Faults.{at_span}
use Rattle.nv_ast.specs.LayoutFaults.{fields_faults, layouts_faults}
use Rattle.nv_ast.specs.Height.{layout_height, highest_layout, field_height, highest_field}
use Rattle.nv_ast.specs.LayoutView.{layout_tree, field_tree, list_fields, list_layouts}
use Rattle.nv_ast.specs.Outline.{no_named_outlines, no_outlines, outlines, field_outlines}
use Rattle.nv_ast.proofs.LayoutRows.{FieldNamed, parts_text, joined_text, overlay_text, highest_field_within, highest_layout_within}
use Rattle.nv_types_table.specs.inner.Named.{named}
use Rattle.nv_types_table.specs.inner.Layouts.{AreShapes, AreMembers}
use Rattle.nv_types_table.specs.declared.shapes.Shape.{Shape}
use Rattle.nv_types_table.proofs.Firsts.{first_kind}
use Rattle.nv_types_scopes.proofs.Holding.{Keeps-refl, Keeps-trans, holds_stays}
use Rattle.nv_types_table.proofs.Sums.{Entry}
use Rattle.nv_types_scopes.proofs.LayoutWalk.{fields_faults_more, fields_first, members_more, layouts_faults_more, layouts_first, shapes_more}
use Rattle.nv_types_scopes.proofs.LayoutArms.{layout_at, field_at, layout_refused, field_refused, fields_refused, whole_refused, whole_done, named_found, named_absent, gap_wrong, gap_right, parts_refused, parts_judged, parts_done, joined_judged, joined_done, bits_wrong, bits_right, inner_refused, inner_done, overlay_refused, overlay_judged, overlay_done}
use Rattle.nv_types_scopes.proofs.functions.Checker.+layout.Goals as goal

pub whole_layout-layout-requires : goal.whole_layout-layout-requires
whole_layout-layout-requires t c = (omega (arith, c.decreases), tt {0})

pub layout-parts_layout-requires : goal.layout-parts_layout-requires
layout-parts_layout-requires t c =
    (omega (arith, c.decreases, ap (λ f. layout_height (layout_tree f)) c.in-Parts.is, ap layout_height (parts_text c.in-Parts.fs), ap (λ l. highest_field (list_fields l)) c.deref.ensures.value), tt {0})

pub layout-joined_layout-requires : goal.layout-joined_layout-requires
layout-joined_layout-requires t c =
    (omega (arith, c.decreases, ap (λ f. layout_height (layout_tree f)) c.in-Joined.is, ap layout_height (joined_text c.in-Joined.ls), ap (λ l. highest_layout (list_layouts l)) c.deref-in-Joined.ensures.value), tt {0})

pub joined_layout-layout-requires : goal.joined_layout-layout-requires
joined_layout-layout-requires t c =
    (omega (arith, c.decreases, highest_layout_within c.args.ls.now c.loop-l.l-index c.l-item.result c.loop-l-test.true c.l-item.is), tt {0})

pub parts_layout-members-requires : goal.parts_layout-members-requires
parts_layout-members-requires t c = (omega (arith, c.decreases), tt {0})

pub members-member-requires : goal.members-member-requires
members-member-requires t c =
    (omega (arith, c.decreases, highest_field_within c.args.fs.now c.loop-f.f-index c.f-item.result c.loop-f-test.true c.f-item.is), tt {0})

pub member-whole_layout-requires : goal.member-whole_layout-requires
member-whole_layout-requires t c =
    (omega (arith, c.decreases, ap (λ f. field_height (field_tree f)) c.in-Inner.is), tt {0})

pub member-members-requires : goal.member-members-requires
member-members-requires t c =
    (omega (arith, c.decreases, ap (λ f. field_height (field_tree f)) c.in-Overlay.is, ap field_height (overlay_text c.in-Overlay.fs), ap (λ l. highest_field (list_fields l)) c.deref.ensures.value), tt {0})

-- ---- a declared or inner layout
pub whole_layout-returns-in_err-shape : goal.whole_layout-returns-in_err-shape
whole_layout-returns-in_err-shape t c =
    let p = err_from_is_err_and c.from_residual.result c.from_residual.ensures.1 in
    rw (p.1, p.2) (whole_refused _ _ _ c.args.span (layout_tree c.args.l.now) c.in_err-shape.field-0.0 c.in_err-shape.ensures)

pub whole_layout-returns : goal.whole_layout-returns
whole_layout-returns t c = whole_done c.args.self.now c.layout.new.self c.args.span (layout_tree c.args.l.now) c.in_ok-shape.shape c.fitting.result c.in_ok-shape.ensures c.fitting.ensures.judged c.fitting.ensures.fits

-- ---- a layout
pub layout-returns-in-Parts : goal.layout-returns-in-Parts
layout-returns-in-Parts t c =
    let text : layout_tree c.args.l.now ≡ PartsLayout (list_fields c.deref.result.now) = ap layout_tree c.in-Parts.is ∙ parts_text c.in-Parts.fs ∙ ap (λ l. PartsLayout (list_fields l)) (sym c.deref.ensures.value) in
    layout_at _ _ c.args.span (layout_tree c.args.l.now) _ _ text c.parts_layout.ensures

pub layout-returns-in-Joined : goal.layout-returns-in-Joined
layout-returns-in-Joined t c =
    let text : layout_tree c.args.l.now ≡ JoinedLayout (list_layouts c.deref-in-Joined.result.now) = ap layout_tree c.in-Joined.is ∙ joined_text c.in-Joined.ls ∙ ap (λ l. JoinedLayout (list_layouts l)) (sym c.deref-in-Joined.ensures.value) in
    layout_at _ _ c.args.span (layout_tree c.args.l.now) _ _ text c.joined_layout.ensures

-- ---- a record
pub parts_layout-returns-in_err-members : goal.parts_layout-returns-in_err-members
parts_layout-returns-in_err-members t c =
    let p = err_from_is_err_and c.from_residual.result c.from_residual.ensures.1 in
    rw (p.1, p.2) (parts_refused _ _ _ c.args.span (list_fields c.args.fs.now) c.in_err-members.field-0.0 c.in_err-members.ensures)

pub parts_layout-returns-in_err-without_repeats : goal.parts_layout-returns-in_err-without_repeats
parts_layout-returns-in_err-without_repeats t c =
    let p = err_from_is_err_and c.from_residual-in_err-without_repeats.result c.from_residual-in_err-without_repeats.ensures.1 in
    let e = c.in_err-without_repeats.field-0.0 in
    rw (p.1, p.2) (layout_refused _ _ c.args.span (PartsLayout (list_fields c.args.fs.now)) e
    (parts_judged {T = ℕ} c.args.self.now c.members.new.self c.record_shape.new.self c.args.span (list_fields c.args.fs.now) c.in_ok-members.members c.in_ok-shape.shape (Err e) c.in_ok-members.ensures
    (λ os h. c.in_ok-shape.ensures.shaped os (subst (λ (l : List Entry). AreMembers c.members.new.self.table (named l) os) (sym c.deref.ensures.value) h)) c.in_err-without_repeats.ensures))

pub parts_layout-returns : goal.parts_layout-returns
parts_layout-returns t c =
    parts_done c.args.self.now c.members.new.self c.record_shape.new.self c.args.span (list_fields c.args.fs.now) c.in_ok-members.members c.in_ok-shape.shape c.in_ok-members.ensures c.in_ok-shape.ensures.keeps
    (λ os h. c.in_ok-shape.ensures.shaped os (subst (λ (l : List Entry). AreMembers c.members.new.self.table (named l) os) (sym c.deref.ensures.value) h)) c.in_ok-without_repeats.ensures

-- ---- joined layouts
pub joined_layout-loop-l-init : goal.joined_layout-loop-l-init
joined_layout-loop-l-init t c = record {
  keeps = Keeps-refl c.args.self.now;
  none = λ k h. refl;
  shaped = λ k h. subst (λ (l : List Shape). AreShapes c.args.self.now.table l no_outlines) (sym c.new-shapes.ensures.items) tt;
}

pub joined_layout-loop-l-preserved : goal.joined_layout-loop-l-preserved
joined_layout-loop-l-preserved t c =
    let xs = c.args.ls.now in
    let i = c.loop-l.l-index in
    let x = c.l-item.result in
    let q = c.in_ok-layout.ensures in
    let inv = c.loop-l.invariant in
    record {
      keeps = Keeps-trans c.args.self.now c.loop-l.self c.layout.new.self inv.keeps q.keeps;
      none = λ k h. layouts_faults_more c.args.span k.layouts xs i x c.loop-l-test.true c.l-item.is (inv.none k h) (q.judged k (holds_stays c.args.self.now c.loop-l.self k inv.keeps.declared h));
      shaped = λ k h.
          shapes_more c.loop-l.self.table c.layout.new.self.table k.layouts xs i x c.loop-l.shapes.items _ c.in_ok-layout.field-0 c.loop-l-test.true c.l-item.is q.keeps.declared.grows
          (inv.shaped k h) c.in_ok-push.ensures.items (q.shaped k (holds_stays c.args.self.now c.loop-l.self k inv.keeps.declared h));
    }

pub joined_layout-returns-in_err-layout : goal.joined_layout-returns-in_err-layout
joined_layout-returns-in_err-layout t c =
    let p = err_from_is_err_and c.from_residual.result c.from_residual.ensures.1 in
    let inv = c.loop-l.invariant in
    rw (p.1, p.2) (layout_refused _ _ c.args.span (JoinedLayout (list_layouts c.args.ls.now)) c.in_err-layout.field-0.0 (λ k h.
    first_kind c.args.span (layouts_faults k.layouts (list_layouts c.args.ls.now)) _ c.in_err-layout.field-0.0
    (layouts_first c.args.span k.layouts c.args.ls.now c.loop-l.l-index c.l-item.result c.in_err-layout.field-0.0 c.loop-l-test.true c.l-item.is (inv.none k h)
    (c.in_err-layout.ensures.judged k (holds_stays c.args.self.now c.loop-l.self k inv.keeps.declared h)))))

pub joined_layout-returns-in_err-without_shared_names : goal.joined_layout-returns-in_err-without_shared_names
joined_layout-returns-in_err-without_shared_names t c =
    let p = err_from_is_err_and c.from_residual-in_err-without_shared_names.result c.from_residual-in_err-without_shared_names.ensures.1 in
    let e = c.in_err-without_shared_names.field-0.0 in
    let ls = c.args.ls.now in
    let inv = c.loop-l.invariant in
    let past : length c.args.ls.now ≤ c.loop-l.l-index = omega arith in
    let all = take_all c.loop-l.l-index c.args.ls.now past in
    rw (p.1, p.2) (layout_refused _ _ c.args.span (JoinedLayout (list_layouts ls)) e
    (joined_judged {T = ℕ} c.args.self.now c.loop-l.self c.args.span (list_layouts ls) c.loop-l.shapes.items (Err e)
    (λ k h. ap (λ l. layouts_faults k.layouts (list_layouts l)) (sym all) ∙ inv.none k h)
    (λ k h. subst (λ (l : List LayoutText). AreShapes c.loop-l.self.table c.loop-l.shapes.items (outlines k.layouts (list_layouts l))) all (inv.shaped k h))
    (λ os h. c.in_err-without_shared_names.ensures os (subst (λ (l : List Shape). AreShapes c.loop-l.self.table l os) (sym c.deref.ensures.value) h))))

pub joined_layout-returns : goal.joined_layout-returns
joined_layout-returns t c =
    let ls = c.args.ls.now in
    let inv = c.loop-l.invariant in
    let past : length c.args.ls.now ≤ c.loop-l.l-index = omega arith in
    let all = take_all c.loop-l.l-index c.args.ls.now past in
    joined_done c.args.self.now c.loop-l.self c.joined_shape.new.self c.args.span (list_layouts ls) c.loop-l.shapes.items c.in_ok-joined_shape.field-0 inv.keeps c.in_ok-joined_shape.ensures.keeps
    (λ k h. ap (λ l. layouts_faults k.layouts (list_layouts l)) (sym all) ∙ inv.none k h)
    (λ k h. subst (λ (l : List LayoutText). AreShapes c.loop-l.self.table c.loop-l.shapes.items (outlines k.layouts (list_layouts l))) all (inv.shaped k h))
    (λ os h. c.in_ok-without_shared_names.ensures os (subst (λ (l : List Shape). AreShapes c.loop-l.self.table l os) (sym c.deref.ensures.value) h))
    (λ os h. c.in_ok-joined_shape.ensures.shaped os (subst (λ (l : List Shape). AreShapes c.loop-l.self.table l os) (sym c.deref-2.ensures.value) h))

-- ---- fields
pub members-loop-f-init : goal.members-loop-f-init
members-loop-f-init t c = record {
  keeps = Keeps-refl c.args.self.now;
  none = λ k h. refl;
  shaped = λ k h. subst (λ (l : List Entry). AreMembers c.args.self.now.table (named l) no_named_outlines) (sym c.new-members.ensures.items) tt;
}

pub members-loop-f-preserved : goal.members-loop-f-preserved
members-loop-f-preserved t c =
    let xs = c.args.fs.now in
    let i = c.loop-f.f-index in
    let x = c.f-item.result in
    let q = c.in_ok-member.ensures in
    let inv = c.loop-f.invariant in
    record {
      keeps = Keeps-trans c.args.self.now c.loop-f.self c.member.new.self inv.keeps q.keeps;
      none = λ k h. fields_faults_more c.args.span k.layouts xs i x c.loop-f-test.true c.f-item.is (inv.none k h) (q.judged k (holds_stays c.args.self.now c.loop-f.self k inv.keeps.declared h));
      shaped = λ k h.
          members_more c.loop-f.self.table c.member.new.self.table k.layouts xs i x c.loop-f.members.items _ _ c.in_ok-member.member c.loop-f-test.true c.f-item.is q.keeps.declared.grows
          (inv.shaped k h) c.in_ok-push.ensures.items refl (q.shaped k (holds_stays c.args.self.now c.loop-f.self k inv.keeps.declared h));
    }

pub members-returns-in_err-member : goal.members-returns-in_err-member
members-returns-in_err-member t c =
    let p = err_from_is_err_and c.from_residual.result c.from_residual.ensures.1 in
    let inv = c.loop-f.invariant in
    rw (p.1, p.2) (fields_refused _ _ c.args.span (list_fields c.args.fs.now) c.in_err-member.field-0.0 (λ k h.
    fields_first c.args.span k.layouts c.args.fs.now c.loop-f.f-index c.f-item.result c.in_err-member.field-0.0 c.loop-f-test.true c.f-item.is (inv.none k h)
    (c.in_err-member.ensures.judged k (holds_stays c.args.self.now c.loop-f.self k inv.keeps.declared h))))

pub members-returns : goal.members-returns
members-returns t c =
    let inv = c.loop-f.invariant in
    let past : length c.args.fs.now ≤ c.loop-f.f-index = omega arith in
    let all = take_all c.loop-f.f-index c.args.fs.now past in
    record {
      judged = λ k h. ap (at_span c.args.span) (ap (λ l. fields_faults k.layouts (list_fields l)) (sym all) ∙ inv.none k h);
      shaped = λ k h. subst (λ (l : List FieldNamed). AreMembers c.loop-f.self.table (named c.loop-f.members.items) (field_outlines k.layouts (list_fields l))) all (inv.shaped k h);
      keeps = inv.keeps;
    }

-- ---- a field
pub member-returns-in_err-shape-in-Inner : goal.member-returns-in_err-shape-in-Inner
member-returns-in_err-shape-in-Inner t c =
    let p = err_from_is_err_and c.from_residual-in_err-shape-in-Inner.result c.from_residual-in_err-shape-in-Inner.ensures.1 in
    let text : field_tree c.args.f.now ≡ InnerField (layout_tree c.in-Inner.l) = ap field_tree c.in-Inner.is in
    let e = c.in_err-shape-in-Inner.field-0.0 in
    rw (p.1, p.2) (field_at _ _ c.args.span (field_tree c.args.f.now) _ _ text (inner_refused _ _ _ c.args.span (layout_tree c.in-Inner.l) e c.in_err-shape-in-Inner.ensures))

pub member-returns-in_ok-inner_member-in-Inner : goal.member-returns-in_ok-inner_member-in-Inner
member-returns-in_ok-inner_member-in-Inner t c =
    let text : field_tree c.args.f.now ≡ InnerField (layout_tree c.in-Inner.l) = ap field_tree c.in-Inner.is in
    field_at _ _ c.args.span (field_tree c.args.f.now) _ _ text
    (inner_done c.args.self.now c.whole_layout.new.self c.inner_member.new.self c.args.span (layout_tree c.in-Inner.l) c.in_ok-shape-in-Inner.shape c.in_ok-inner_member-in-Inner.field-0 c.in_ok-shape-in-Inner.ensures c.in_ok-inner_member-in-Inner.ensures.keeps c.in_ok-inner_member-in-Inner.ensures.made)

pub member-returns-in_err-members-in-Overlay : goal.member-returns-in_err-members-in-Overlay
member-returns-in_err-members-in-Overlay t c =
    let p = err_from_is_err_and c.from_residual-in_err-members-in-Overlay.result c.from_residual-in_err-members-in-Overlay.ensures.1 in
    let text : field_tree c.args.f.now ≡ OverlayField (list_fields c.deref.result.now) = ap field_tree c.in-Overlay.is ∙ overlay_text c.in-Overlay.fs ∙ ap (λ l. OverlayField (list_fields l)) (sym c.deref.ensures.value) in
    let e = c.in_err-members-in-Overlay.field-0.0 in
    rw (p.1, p.2) (field_at _ _ c.args.span (field_tree c.args.f.now) _ _ text (overlay_refused _ _ _ c.args.span (list_fields c.deref.result.now) e c.in_err-members-in-Overlay.ensures))

pub member-returns-in_err-fitting_alternatives-in-Overlay : goal.member-returns-in_err-fitting_alternatives-in-Overlay
member-returns-in_err-fitting_alternatives-in-Overlay t c =
    let p = err_from_is_err_and c.from_residual-in_err-fitting_alternatives-in-Overlay.result c.from_residual-in_err-fitting_alternatives-in-Overlay.ensures.1 in
    let text : field_tree c.args.f.now ≡ OverlayField (list_fields c.deref.result.now) = ap field_tree c.in-Overlay.is ∙ overlay_text c.in-Overlay.fs ∙ ap (λ l. OverlayField (list_fields l)) (sym c.deref.ensures.value) in
    let e = c.in_err-fitting_alternatives-in-Overlay.field-0.0 in
    let ms = c.in_ok-members-in-Overlay in
    let m = c.in_ok-member-in-Overlay in
    rw (p.1, p.2) (field_at _ _ c.args.span (field_tree c.args.f.now) _ _ text (field_refused _ _ c.args.span (OverlayField (list_fields c.deref.result.now)) e
    (overlay_judged {T = ℕ} c.args.self.now c.members.new.self c.args.span (list_fields c.deref.result.now) ms.members (Err e) ms.ensures
    (λ os h. c.in_err-fitting_alternatives-in-Overlay.ensures c.members.new.self.table os (subst (λ (l : List Entry). AreMembers c.members.new.self.table (named l) os) (sym c.deref-in-Overlay-2.ensures.value) h)
    (m.ensures.forms os (subst (λ (l : List Entry). AreMembers c.members.new.self.table (named l) os) (sym c.deref-in-Overlay.ensures.value) h))))))

pub member-returns-in_ok-fitting_alternatives-in-Overlay : goal.member-returns-in_ok-fitting_alternatives-in-Overlay
member-returns-in_ok-fitting_alternatives-in-Overlay t c =
    let text : field_tree c.args.f.now ≡ OverlayField (list_fields c.deref.result.now) = ap field_tree c.in-Overlay.is ∙ overlay_text c.in-Overlay.fs ∙ ap (λ l. OverlayField (list_fields l)) (sym c.deref.ensures.value) in
    let ms = c.in_ok-members-in-Overlay in
    let m = c.in_ok-member-in-Overlay in
    field_at _ _ c.args.span (field_tree c.args.f.now) _ _ text
    (overlay_done c.args.self.now c.members.new.self c.overlay_member.new.self c.args.span (list_fields c.deref.result.now) ms.members m.member.0 ms.ensures m.ensures.keeps
    (λ os h. m.ensures.made os (subst (λ (l : List Entry). AreMembers c.members.new.self.table (named l) os) (sym c.deref-in-Overlay.ensures.value) h))
    (λ os h. c.in_ok-fitting_alternatives-in-Overlay.ensures c.members.new.self.table os (subst (λ (l : List Entry). AreMembers c.members.new.self.table (named l) os) (sym c.deref-in-Overlay-2.ensures.value) h)
    (m.ensures.forms os (subst (λ (l : List Entry). AreMembers c.members.new.self.table (named l) os) (sym c.deref-in-Overlay.ensures.value) h))))

-- ---- bits
pub member-returns-in_err-fault_where-in-Bits : goal.member-returns-in_err-fault_where-in-Bits
member-returns-in_err-fault_where-in-Bits t c =
    let p = err_from_is_err_and c.from_residual.result c.from_residual.ensures.1 in
    let text : field_tree c.args.f.now ≡ BitsField c.in-Bits.n = ap field_tree c.in-Bits.is in
    let e = c.in_err-fault_where-in-Bits.field-0.0 in
    rw (p.1, p.2) (field_at _ _ c.args.span (field_tree c.args.f.now) _ _ text (bits_wrong _ c.args.span c.in-Bits.n c.is_outside.result e c.is_outside.ensures c.in_err-fault_where-in-Bits.ensures))

pub member-returns-in_ok-fault_where-in-Bits : goal.member-returns-in_ok-fault_where-in-Bits
member-returns-in_ok-fault_where-in-Bits t c =
    let text : field_tree c.args.f.now ≡ BitsField c.in-Bits.n = ap field_tree c.in-Bits.is in
    field_at _ _ c.args.span (field_tree c.args.f.now) _ _ text (bits_right _ c.args.span c.in-Bits.n c.is_outside.result c.bit_field.result c.is_outside.ensures c.in_ok-fault_where-in-Bits.ensures c.bit_field.ensures)

-- ---- a gap
pub layout-returns-in_err-fault_where-in-Gap : goal.layout-returns-in_err-fault_where-in-Gap
layout-returns-in_err-fault_where-in-Gap t c =
    let p = err_from_is_err_and c.from_residual.result c.from_residual.ensures.1 in
    let text : layout_tree c.args.l.now ≡ GapLayout c.in-Gap.n = ap layout_tree c.in-Gap.is in
    let e = c.in_err-fault_where-in-Gap.field-0.0 in
    rw (p.1, p.2) (layout_at _ _ c.args.span (layout_tree c.args.l.now) _ _ text (gap_wrong _ c.args.span c.in-Gap.n c.is_outside.result e c.is_outside.ensures c.in_err-fault_where-in-Gap.ensures))

pub layout-returns-in_ok-fault_where-in-Gap : goal.layout-returns-in_ok-fault_where-in-Gap
layout-returns-in_ok-fault_where-in-Gap t c =
    let text : layout_tree c.args.l.now ≡ GapLayout c.in-Gap.n = ap layout_tree c.in-Gap.is in
    layout_at _ _ c.args.span (layout_tree c.args.l.now) _ _ text (gap_right _ c.args.span c.in-Gap.n c.is_outside.result c.gap.result c.is_outside.ensures c.in_ok-fault_where-in-Gap.ensures c.gap.ensures)

-- ---- a name
pub layout-returns-in-Some : goal.layout-returns-in-Some
layout-returns-in-Some t c =
    let text : layout_tree c.args.l.now ≡ NamedLayout c.in-Named.x = ap layout_tree c.in-Named.is in
    layout_at _ _ c.args.span (layout_tree c.args.l.now) _ _ text (named_found _ c.args.span c.in-Named.x c.in-Some.shape c.in-Some.ensures)

pub layout-returns-in-None : goal.layout-returns-in-None
layout-returns-in-None t c =
    let text : layout_tree c.args.l.now ≡ NamedLayout c.in-Named.x = ap layout_tree c.in-Named.is in
    layout_at _ _ c.args.span (layout_tree c.args.l.now) _ _ text (named_absent _ c.args.span c.in-Named.x c.in-None.ensures)
