use Rattle.std.proofs.Common.{◌≡◌, ◌∙◌, ◌≤◌, length, ap, sym, subst, arith}
use Rattle.std.proofs.lemmas.List.{take_all}
use Rattle.std.proofs.lemmas.Result.{err_from_is_err_and}
use Rattle.nv_ast.specs.Tree.{LayoutTree, PartsLayout, JoinedLayout, FieldTree, InnerField, OverlayField}
use Rattle.nv_ast.specs.Height.{layout_height, highest_layout, field_height, highest_field}
use Rattle.nv_ast.specs.LayoutView.{layout_tree, field_tree, list_fields, list_layouts}
use Rattle.nv_ast.specs.Outline.{outline, field_outline}
use Rattle.nv_ast.specs.LayoutFaults.{layout_faults, field_faults, fields_faults, layouts_faults}
use Rattle.nv_ast.proofs.LayoutRows.{parts_text, joined_text, overlay_text, highest_field_within, highest_layout_within}
use Rattle.nv_layout.specs.OutlineView.{layouts_of}
use Rattle.nv_layout.specs.Shaping.{IsFirstOf}
use Rattle.nv_layout.specs.inner.Shapes.{Shapes}
use Rattle.nv_layout.proofs.Lists.{trees_of}
use Rattle.nv_layout.proofs.Walks.{first_append, fields_faults_more, fields_first, fields_shaped, shaped_fields, shaped_fields_more, layouts_faults_more, layouts_first, layouts_shaped, shaped_layouts, shaped_layouts_more, parts_shaped, joined_shaped, overlay_shaped}
use Rattle.nv_layout.proofs.walk.+walk.Goals as goal

pub field_text_outline-layout_outline-requires : goal.field_text_outline-layout_outline-requires
field_text_outline-layout_outline-requires t c =
    (omega (arith, c.decreases, ap (λ f. field_height (field_tree f)) c.in-Inner.is), tt {0})

pub field_text_outline-fields_outlines-requires : goal.field_text_outline-fields_outlines-requires
field_text_outline-fields_outlines-requires t c =
    (omega (arith, c.decreases, ap (λ f. field_height (field_tree f)) c.in-Overlay.is, ap field_height (overlay_text c.in-Overlay.fs), ap (λ l. highest_field (list_fields l)) c.deref.ensures.value), tt {0})

pub fields_outlines-field_text_outline-requires : goal.fields_outlines-field_text_outline-requires
fields_outlines-field_text_outline-requires t c =
    (omega (arith, c.decreases, highest_field_within c.args.fs.now c.loop-f.f-index c.f-item.result c.loop-f-test.true c.f-item.is), tt {0})

pub layout_outline-fields_outlines-requires : goal.layout_outline-fields_outlines-requires
layout_outline-fields_outlines-requires t c =
    (omega (arith, c.decreases, ap (λ f. layout_height (layout_tree f)) c.in-Parts.is, ap layout_height (parts_text c.in-Parts.fs), ap (λ l. highest_field (list_fields l)) c.deref.ensures.value), tt {0})

pub layout_outline-layouts_outlines-requires : goal.layout_outline-layouts_outlines-requires
layout_outline-layouts_outlines-requires t c =
    (omega (arith, c.decreases, ap (λ f. layout_height (layout_tree f)) c.in-Joined.is, ap layout_height (joined_text c.in-Joined.ls), ap (λ l. highest_layout (list_layouts l)) c.deref-in-Joined.ensures.value), tt {0})

pub layouts_outlines-layout_outline-requires : goal.layouts_outlines-layout_outline-requires
layouts_outlines-layout_outline-requires t c =
    (omega (arith, c.decreases, highest_layout_within c.args.ls.now c.loop-l.l-index c.l-item.result c.loop-l-test.true c.l-item.is), tt {0})

pub field_text_outline-returns-in_err-layout_outline-in-Inner : goal.field_text_outline-returns-in_err-layout_outline-in-Inner
field_text_outline-returns-in_err-layout_outline-in-Inner t c =
    let e = c.in_err-layout_outline-in-Inner.field-0.0 in
    let known = layouts_of c.args.known.now in
    let text : field_tree c.args.f.now ≡ InnerField (layout_tree c.in-Inner.l) = ap field_tree c.in-Inner.is in
    let p = err_from_is_err_and c.from_residual.result c.from_residual.ensures.1 in
    rw (p.1, p.2) (subst (λ (x : FieldTree). IsFirstOf (field_faults known x) e) (sym text) (first_append _ _ e c.in_err-layout_outline-in-Inner.ensures))

pub field_text_outline-returns-in_err-alternatives-in-Overlay : goal.field_text_outline-returns-in_err-alternatives-in-Overlay
field_text_outline-returns-in_err-alternatives-in-Overlay t c =
    let e = c.in_err-alternatives-in-Overlay.field-0.0 in
    let known = layouts_of c.args.known.now in
    let text : field_tree c.args.f.now ≡ OverlayField (list_fields c.deref.result.now) = ap field_tree c.in-Overlay.is ∙ overlay_text c.in-Overlay.fs ∙ ap (λ l. OverlayField (list_fields l)) (sym c.deref.ensures.value) in
    let p = err_from_is_err_and c.from_residual-in_err-alternatives-in-Overlay.result c.from_residual-in_err-alternatives-in-Overlay.ensures.1 in
    rw (p.1, p.2) (subst (λ (x : FieldTree). IsFirstOf (field_faults known x) e) (sym text) (first_append _ _ e c.in_err-alternatives-in-Overlay.ensures))

pub field_text_outline-returns-in_ok-alternatives-in-Overlay : goal.field_text_outline-returns-in_ok-alternatives-in-Overlay
field_text_outline-returns-in_ok-alternatives-in-Overlay t c =
    let known = layouts_of c.args.known.now in
    let fs = c.deref.result.now in
    let done = c.in_ok-alternatives-in-Overlay in
    let text : field_tree c.args.f.now ≡ OverlayField (list_fields c.deref.result.now) = ap field_tree c.in-Overlay.is ∙ overlay_text c.in-Overlay.fs ∙ ap (λ l. OverlayField (list_fields l)) (sym c.deref.ensures.value) in
    subst (λ (x : FieldTree). Shapes (field_faults known x) (field_outline known x) c.overlay.result) (sym text) (overlay_shaped known fs done.alternatives.items c.overlay.result done.ensures.0 done.ensures.1 c.overlay.ensures)

pub fields_outlines-returns-in_err-o : goal.fields_outlines-returns-in_err-o
fields_outlines-returns-in_err-o t c =
    let p = err_from_is_err_and c.from_residual.result c.from_residual.ensures.1 in
    rw (p.1, p.2) (fields_first (layouts_of c.args.known.now) c.args.fs.now c.loop-f.f-index c.f-item.result c.in_err-o.field-0.0 c.loop-f-test.true c.f-item.is c.loop-f.invariant.none c.in_err-o.ensures)

pub fields_outlines-loop-f-preserved : goal.fields_outlines-loop-f-preserved
fields_outlines-loop-f-preserved t c =
    let known = layouts_of c.args.known.now in
    let cloned : c.in_ok-clone.field-0 ≡ c.f-item.result.0 = c.in_ok-clone.ensures.cases in
    record {
      none = fields_faults_more known c.args.fs.now c.loop-f.f-index c.f-item.result c.loop-f-test.true c.f-item.is c.loop-f.invariant.none c.in_ok-o.ensures.0;
      shaped = ap layouts_of c.in_ok-push.ensures.items ∙ shaped_fields_more known c.args.fs.now c.loop-f.f-index c.f-item.result c.loop-f.done.items c.in_ok-clone.field-0 c.in_ok-o.o c.loop-f-test.true c.f-item.is c.loop-f.invariant.shaped cloned c.in_ok-o.ensures.1;
    }

pub fields_outlines-returns : goal.fields_outlines-returns
fields_outlines-returns t c =
    let known = layouts_of c.args.known.now in
    let h : length c.args.fs.now ≤ c.loop-f.f-index = omega arith in
    let all = take_all c.loop-f.f-index c.args.fs.now h in
    (ap (λ l. fields_faults known (list_fields l)) (sym all) ∙ c.loop-f.invariant.none, fields_shaped known c.loop-f.done.items c.args.fs.now (c.loop-f.invariant.shaped ∙ ap (shaped_fields known) all))

pub layout_outline-returns-in_err-parts-in-Parts : goal.layout_outline-returns-in_err-parts-in-Parts
layout_outline-returns-in_err-parts-in-Parts t c =
    let e = c.in_err-parts-in-Parts.field-0.0 in
    let known = layouts_of c.args.known.now in
    let text : layout_tree c.args.l.now ≡ PartsLayout (list_fields c.deref.result.now) = ap layout_tree c.in-Parts.is ∙ parts_text c.in-Parts.fs ∙ ap (λ l. PartsLayout (list_fields l)) (sym c.deref.ensures.value) in
    let p = err_from_is_err_and c.from_residual.result c.from_residual.ensures.1 in
    rw (p.1, p.2) (subst (λ (x : LayoutTree). IsFirstOf (layout_faults known x) e) (sym text) (first_append _ _ e c.in_err-parts-in-Parts.ensures))

pub layout_outline-returns-in_err-layouts-in-Joined : goal.layout_outline-returns-in_err-layouts-in-Joined
layout_outline-returns-in_err-layouts-in-Joined t c =
    let e = c.in_err-layouts-in-Joined.field-0.0 in
    let known = layouts_of c.args.known.now in
    let text : layout_tree c.args.l.now ≡ JoinedLayout (list_layouts c.deref-in-Joined.result.now) = ap layout_tree c.in-Joined.is ∙ joined_text c.in-Joined.ls ∙ ap (λ l. JoinedLayout (list_layouts l)) (sym c.deref-in-Joined.ensures.value) in
    let p = err_from_is_err_and c.from_residual-in_err-layouts-in-Joined.result c.from_residual-in_err-layouts-in-Joined.ensures.1 in
    rw (p.1, p.2) (subst (λ (x : LayoutTree). IsFirstOf (layout_faults known x) e) (sym text) (first_append _ _ e c.in_err-layouts-in-Joined.ensures))

pub layout_outline-returns-in_ok-parts-in-Parts : goal.layout_outline-returns-in_ok-parts-in-Parts
layout_outline-returns-in_ok-parts-in-Parts t c =
    let known = layouts_of c.args.known.now in
    let done = c.in_ok-parts-in-Parts in
    let text : layout_tree c.args.l.now ≡ PartsLayout (list_fields c.deref.result.now) = ap layout_tree c.in-Parts.is ∙ parts_text c.in-Parts.fs ∙ ap (λ l. PartsLayout (list_fields l)) (sym c.deref.ensures.value) in
    subst (λ (x : LayoutTree). Shapes (layout_faults known x) (outline known x) c.without_repeats.result) (sym text) (parts_shaped known c.deref.result.now done.parts c.without_repeats.result done.ensures.0 done.ensures.1 c.without_repeats.ensures)

pub layout_outline-returns-in_ok-layouts-in-Joined : goal.layout_outline-returns-in_ok-layouts-in-Joined
layout_outline-returns-in_ok-layouts-in-Joined t c =
    let known = layouts_of c.args.known.now in
    let done = c.in_ok-layouts-in-Joined in
    let text : layout_tree c.args.l.now ≡ JoinedLayout (list_layouts c.deref-in-Joined.result.now) = ap layout_tree c.in-Joined.is ∙ joined_text c.in-Joined.ls ∙ ap (λ l. JoinedLayout (list_layouts l)) (sym c.deref-in-Joined.ensures.value) in
    subst (λ (x : LayoutTree). Shapes (layout_faults known x) (outline known x) c.without_repeats-in-Joined.result) (sym text) (joined_shaped known c.deref-in-Joined.result.now done.layouts c.without_repeats-in-Joined.result done.ensures.0 done.ensures.1 c.without_repeats-in-Joined.ensures)

pub layouts_outlines-returns-in_err-layout_outline : goal.layouts_outlines-returns-in_err-layout_outline
layouts_outlines-returns-in_err-layout_outline t c =
    let p = err_from_is_err_and c.from_residual.result c.from_residual.ensures.1 in
    rw (p.1, p.2) (layouts_first (layouts_of c.args.known.now) c.args.ls.now c.loop-l.l-index c.l-item.result c.in_err-layout_outline.field-0.0 c.loop-l-test.true c.l-item.is c.loop-l.invariant.none c.in_err-layout_outline.ensures)

pub layouts_outlines-loop-l-preserved : goal.layouts_outlines-loop-l-preserved
layouts_outlines-loop-l-preserved t c =
    let known = layouts_of c.args.known.now in
    record {
      none = layouts_faults_more known c.args.ls.now c.loop-l.l-index c.l-item.result c.loop-l-test.true c.l-item.is c.loop-l.invariant.none c.in_ok-layout_outline.ensures.0;
      shaped = ap trees_of c.in_ok-push.ensures.items ∙ shaped_layouts_more known c.args.ls.now c.loop-l.l-index c.l-item.result c.loop-l.done.items c.in_ok-layout_outline.field-0 c.loop-l-test.true c.l-item.is c.loop-l.invariant.shaped c.in_ok-layout_outline.ensures.1;
    }

pub layouts_outlines-returns : goal.layouts_outlines-returns
layouts_outlines-returns t c =
    let known = layouts_of c.args.known.now in
    let h : length c.args.ls.now ≤ c.loop-l.l-index = omega arith in
    let all = take_all c.loop-l.l-index c.args.ls.now h in
    (ap (λ l. layouts_faults known (list_layouts l)) (sym all) ∙ c.loop-l.invariant.none, layouts_shaped known c.loop-l.done.items c.args.ls.now (c.loop-l.invariant.shaped ∙ ap (shaped_layouts known) all))
