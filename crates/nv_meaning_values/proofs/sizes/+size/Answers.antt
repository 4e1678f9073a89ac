use Rattle.std.proofs.Common.{◌∙◌, min, ap, sym, arith}
use Rattle.std.proofs.lemmas.List.{take_all}
use Rattle.std.below.core.specs.declared.int.u64.TheConstants.{MAX}
use Rattle.nv_ast.specs.Height.{layout_height, highest_layout, field_height, highest_field}
use Rattle.nv_ast.specs.LayoutView.{layout_tree, field_tree, list_fields, list_layouts}
use Rattle.nv_ast.specs.Outline.{PartsOutline, JoinedOutline, OverlayOutline, outline, outlines, field_outline, field_outlines, size, total_size, total_named_size, longest}
use Rattle.nv_ast.proofs.Reading.{parts_is, joined_is, overlay_is}
use Rattle.nv_ast.proofs.LayoutRows.{highest_field_within, highest_layout_within}
use Rattle.nv_meaning_values.proofs.Unpacking.{total_named_more, longest_more, total_more}
use Rattle.nv_meaning_values.proofs.sizes.+size.Goals as goal

pub layout_size-parts_size-requires : goal.layout_size-parts_size-requires
layout_size-parts_size-requires t c =
    (omega (arith, c.decreases, ap layout_height (parts_is c.args.l.now c.in-Parts.fs c.in-Parts.is), ap (λ k. highest_field (list_fields k)) c.deref.ensures.value), tt {0})

pub layout_size-joined_size-requires : goal.layout_size-joined_size-requires
layout_size-joined_size-requires t c =
    (omega (arith, c.decreases, ap layout_height (joined_is c.args.l.now c.in-Joined.ls c.in-Joined.is), ap (λ k. highest_layout (list_layouts k)) c.deref-in-Joined.ensures.value), tt {0})

pub joined_size-layout_size-requires : goal.joined_size-layout_size-requires
joined_size-layout_size-requires t c =
    (omega (arith, c.decreases, highest_layout_within c.args.ls.now c.loop-l.l-index c.l-item.result c.loop-l-test.true c.l-item.is), tt {0})

pub parts_size-field_size-requires : goal.parts_size-field_size-requires
parts_size-field_size-requires t c =
    (omega (arith, c.decreases, highest_field_within c.args.fs.now c.loop-f.f-index c.f-item.result c.loop-f-test.true c.f-item.is), tt {0})

pub longest-field_size-requires : goal.longest-field_size-requires
longest-field_size-requires t c =
    (omega (arith, c.decreases, highest_field_within c.args.fs.now c.loop-f.f-index c.f-item.result c.loop-f-test.true c.f-item.is), tt {0})

pub field_size-layout_size-requires : goal.field_size-layout_size-requires
field_size-layout_size-requires t c =
    (omega (arith, c.decreases, ap (λ k. field_height (field_tree k)) c.in-Inner.is), tt {0})

pub field_size-longest-requires : goal.field_size-longest-requires
field_size-longest-requires t c =
    (omega (arith, c.decreases, ap field_height (overlay_is c.args.f.now c.in-Overlay.fs c.in-Overlay.is), ap (λ k. highest_field (list_fields k)) c.deref.ensures.value), tt {0})

pub joined_size-loop-l-preserved : goal.joined_size-loop-l-preserved
joined_size-loop-l-preserved t c = λ known h.
    omega (arith, c.loop-l.invariant known h, total_more known c.args.ls.now c.loop-l.l-index c.l-item.result c.loop-l-test.true c.l-item.is, c.layout_size.ensures known h, c.saturating_add-total.ensures)

pub parts_size-loop-f-preserved : goal.parts_size-loop-f-preserved
parts_size-loop-f-preserved t c = λ known h.
    omega (arith, c.loop-f.invariant known h, total_named_more known c.args.fs.now c.loop-f.f-index c.f-item.result c.loop-f-test.true c.f-item.is, c.field_size.ensures known h, c.saturating_add-total.ensures)

pub longest-loop-f-preserved : goal.longest-loop-f-preserved
longest-loop-f-preserved t c = λ known h.
    omega (arith, c.loop-f.invariant known h, longest_more known c.args.fs.now c.loop-f.f-index c.f-item.result c.loop-f-test.true c.f-item.is, c.field_size.ensures known h, c.max-most.ensures)

pub layout_size-returns-in-Named : goal.layout_size-returns-in-Named
layout_size-returns-in-Named t c = λ known h.
    c.name_size.ensures ∙ h c.in-Named.x ∙ ap (λ k. min (size (outline known (layout_tree k))) MAX) (sym c.in-Named.is)

pub layout_size-returns-in-Gap : goal.layout_size-returns-in-Gap
layout_size-returns-in-Gap t c = λ known h.
    let s = ap size (ap (λ k. outline known (layout_tree k)) c.in-Gap.is) in
    omega arith

pub layout_size-returns-in-Parts : goal.layout_size-returns-in-Parts
layout_size-returns-in-Parts t c = λ known h.
    c.parts_size.ensures known h ∙ ap (λ o. min (size o) MAX) (sym (ap (outline known) (parts_is c.args.l.now c.in-Parts.fs c.in-Parts.is) ∙ ap (λ k. PartsOutline (field_outlines known (list_fields k))) (sym c.deref.ensures.value)))

pub layout_size-returns-in-Joined : goal.layout_size-returns-in-Joined
layout_size-returns-in-Joined t c = λ known h.
    c.joined_size.ensures known h ∙ ap (λ o. min (size o) MAX) (sym (ap (outline known) (joined_is c.args.l.now c.in-Joined.ls c.in-Joined.is) ∙ ap (λ k. JoinedOutline (outlines known (list_layouts k))) (sym c.deref-in-Joined.ensures.value)))

pub field_size-returns-in-Bits : goal.field_size-returns-in-Bits
field_size-returns-in-Bits t c = λ known h.
    let s = ap size (ap (λ k. field_outline known (field_tree k)) c.in-Bits.is) in
    omega arith

pub field_size-returns-in-Inner : goal.field_size-returns-in-Inner
field_size-returns-in-Inner t c = λ known h.
    c.layout_size.ensures known h ∙ ap (λ o. min (size o) MAX) (sym (ap (λ k. field_outline known (field_tree k)) c.in-Inner.is))

pub field_size-returns-in-Overlay : goal.field_size-returns-in-Overlay
field_size-returns-in-Overlay t c = λ known h.
    c.longest.ensures known h ∙ ap (λ o. min (size o) MAX) (sym (ap (field_outline known) (overlay_is c.args.f.now c.in-Overlay.fs c.in-Overlay.is) ∙ ap (λ k. OverlayOutline (field_outlines known (list_fields k))) (sym c.deref.ensures.value)))

pub joined_size-returns : goal.joined_size-returns
joined_size-returns t c = λ known h.
    c.loop-l.invariant known h ∙ ap (λ l. min (total_size (outlines known (list_layouts l))) MAX) (take_all c.loop-l.l-index c.args.ls.now (omega arith))

pub parts_size-returns : goal.parts_size-returns
parts_size-returns t c = λ known h.
    c.loop-f.invariant known h ∙ ap (λ l. min (total_named_size (field_outlines known (list_fields l))) MAX) (take_all c.loop-f.f-index c.args.fs.now (omega arith))

pub longest-returns : goal.longest-returns
longest-returns t c = λ known h.
    c.loop-f.invariant known h ∙ ap (λ l. min (longest (field_outlines known (list_fields l))) MAX) (take_all c.loop-f.f-index c.args.fs.now (omega arith))
