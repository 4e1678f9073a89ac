use Rattle.std.proofs.Common.{◌≡◌, ◌∙◌, ◌+◌, ◌++◌, ap, sym, refl, subst, arith, take, drop, OnOk}
use Rattle.std.proofs.lemmas.List.{drop_all}
use Rattle.nv_ast.specs.LayoutView.{layout_tree, field_tree, list_fields, list_layouts}
use Rattle.nv_ast.specs.Outline.{PartsOutline, JoinedOutline, OverlayOutline, outline, outlines, field_outline, field_outlines, outline_height}
use Rattle.nv_ast.specs.Types.{words, total_named_words, unpacked, unpacked_all, form_of, forms_of, joined_forms, record_forms}
use Rattle.nv_ast.proofs.Reading.{parts_is, joined_is, overlay_is}
use Rattle.nv_meaning_values.specs.inner.TableView.{declared_in}
use Rattle.nv_meaning_values.specs.inner.Tables.{layout_pairs}
use Rattle.nv_meaning_values.proofs.Unpacking.{alias-low, highest_named_within, highest_within}
use Rattle.nv_flatten_values.specs.inner.Fields.{◌++_symbols◌}
use Rattle.nv_flatten_values.specs.inner.Symbols.{Record, fresh, named_fresh, numbers_from}
use Rattle.nv_flatten_values.specs.inner.View.{list_named_symbols}
use Rattle.nv_flatten_values.proofs.Listing.{record-view, numbers-turn, fields-turn, fields-done, fields-same, joined-turn, tys_then, unpacked-then, words-then, layout-form}
use Rattle.nv_flatten_values.proofs.forms.+layouts.Goals as goal
use Rattle.nv_ast.proofs.Items.{next_item}

pub add_layout-add_parts-requires : goal.add_layout-add_parts-requires
add_layout-add_parts-requires t c =
    let e = ap outline_height (ap (outline (take c.args.limit (declared_in c.args.t.now).layouts)) (parts_is c.args.l.now c.in-Parts.fs c.in-Parts.is) ∙ ap (λ k. PartsOutline (field_outlines (take c.args.limit (declared_in c.args.t.now).layouts) (list_fields k))) (sym c.deref.ensures.value)) in
    (omega (arith, c.decreases), tt {0})

pub add_layout-add_joined-requires : goal.add_layout-add_joined-requires
add_layout-add_joined-requires t c =
    let e = ap outline_height (ap (outline (take c.args.limit (declared_in c.args.t.now).layouts)) (joined_is c.args.l.now c.in-Joined.ls c.in-Joined.is) ∙ ap (λ k. JoinedOutline (outlines (take c.args.limit (declared_in c.args.t.now).layouts) (list_layouts k))) (sym c.deref-in-Joined.ensures.value)) in
    (omega (arith, c.decreases), tt {0})

pub add_joined-add_layout-requires : goal.add_joined-add_layout-requires
add_joined-add_layout-requires t c =
    (omega (arith, c.decreases, highest_within (take c.args.limit (declared_in c.args.t.now).layouts) c.args.ls.now c.loop-l.l-index c.l-item.result c.loop-l-test.true c.l-item.is, alias-low (layout_tree c.l-item.result)), tt {0})

pub add_parts-of_field-requires : goal.add_parts-of_field-requires
add_parts-of_field-requires t c =
    (omega (arith, c.decreases, highest_named_within (take c.args.limit (declared_in c.args.t.now).layouts) c.args.fs.now c.loop-f.f-index c.f-item.result c.loop-f-test.true c.f-item.is), tt {0})

pub of_field-add_parts-requires : goal.of_field-add_parts-requires
of_field-add_parts-requires t c =
    let e = ap outline_height (ap (field_outline (take c.args.limit (declared_in c.args.t.now).layouts)) (overlay_is c.args.f.now c.in-Overlay.fs c.in-Overlay.is) ∙ ap (λ k. OverlayOutline (field_outlines (take c.args.limit (declared_in c.args.t.now).layouts) (list_fields k))) (sym c.deref.ensures.value)) in
    (omega (arith, c.decreases), tt {0})

pub add_layout-returns-in-None-clause-fields : goal.add_layout-returns-in-None-clause-fields
add_layout-returns-in-None-clause-fields t c =
    fields-same c.args.next.now c.args.fields.now.items (unpacked_all (record_forms (outline (take c.args.limit (declared_in c.args.t.now).layouts) (layout_tree c.args.l.now)))) (ap (λ o. unpacked_all (record_forms o)) (ap (λ k. outline (take c.args.limit (declared_in c.args.t.now).layouts) (layout_tree k)) c.in-Named.is ∙ c.in-None.ensures.outline))

pub add_layout-returns-in-Gap-clause-fields : goal.add_layout-returns-in-Gap-clause-fields
add_layout-returns-in-Gap-clause-fields t c =
    fields-same c.args.next.now c.args.fields.now.items (unpacked_all (record_forms (outline (take c.args.limit (declared_in c.args.t.now).layouts) (layout_tree c.args.l.now)))) (ap (λ k. unpacked_all (record_forms (outline (take c.args.limit (declared_in c.args.t.now).layouts) (layout_tree k)))) c.in-Gap.is)

pub add_layout-returns-in-Parts-clause-fields : goal.add_layout-returns-in-Parts-clause-fields
add_layout-returns-in-Parts-clause-fields t c =
    subst (λ o. OnOk c.add_parts.result (list_named_symbols c.add_parts.new.fields.items ≡ list_named_symbols c.args.fields.now.items ++_symbols named_fresh c.args.next.now (unpacked_all (record_forms o)))) (sym (ap (outline (take c.args.limit (declared_in c.args.t.now).layouts)) (parts_is c.args.l.now c.in-Parts.fs c.in-Parts.is) ∙ ap (λ k. PartsOutline (field_outlines (take c.args.limit (declared_in c.args.t.now).layouts) (list_fields k))) (sym c.deref.ensures.value))) c.add_parts.ensures.fields

pub add_layout-returns-in-Parts-clause-next : goal.add_layout-returns-in-Parts-clause-next
add_layout-returns-in-Parts-clause-next t c =
    subst (λ o. OnOk c.add_parts.result (c.add_parts.new.next ≡ c.args.next.now + total_named_words (unpacked_all (record_forms o)))) (sym (ap (outline (take c.args.limit (declared_in c.args.t.now).layouts)) (parts_is c.args.l.now c.in-Parts.fs c.in-Parts.is) ∙ ap (λ k. PartsOutline (field_outlines (take c.args.limit (declared_in c.args.t.now).layouts) (list_fields k))) (sym c.deref.ensures.value))) c.add_parts.ensures.next

pub add_layout-returns-in-Parts-clause-made : goal.add_layout-returns-in-Parts-clause-made
add_layout-returns-in-Parts-clause-made t c =
    subst (λ o. OnOk c.add_parts.result (c.add_parts.new.made.items ≡ c.args.made.now.items ++ numbers_from c.args.next.now (total_named_words (unpacked_all (record_forms o))))) (sym (ap (outline (take c.args.limit (declared_in c.args.t.now).layouts)) (parts_is c.args.l.now c.in-Parts.fs c.in-Parts.is) ∙ ap (λ k. PartsOutline (field_outlines (take c.args.limit (declared_in c.args.t.now).layouts) (list_fields k))) (sym c.deref.ensures.value))) c.add_parts.ensures.made

pub add_layout-returns-in-Joined-clause-fields : goal.add_layout-returns-in-Joined-clause-fields
add_layout-returns-in-Joined-clause-fields t c =
    subst (λ o. OnOk c.add_joined.result (list_named_symbols c.add_joined.new.fields.items ≡ list_named_symbols c.args.fields.now.items ++_symbols named_fresh c.args.next.now (unpacked_all (record_forms o)))) (sym (ap (outline (take c.args.limit (declared_in c.args.t.now).layouts)) (joined_is c.args.l.now c.in-Joined.ls c.in-Joined.is) ∙ ap (λ k. JoinedOutline (outlines (take c.args.limit (declared_in c.args.t.now).layouts) (list_layouts k))) (sym c.deref-in-Joined.ensures.value))) c.add_joined.ensures.fields

pub add_layout-returns-in-Joined-clause-next : goal.add_layout-returns-in-Joined-clause-next
add_layout-returns-in-Joined-clause-next t c =
    subst (λ o. OnOk c.add_joined.result (c.add_joined.new.next ≡ c.args.next.now + total_named_words (unpacked_all (record_forms o)))) (sym (ap (outline (take c.args.limit (declared_in c.args.t.now).layouts)) (joined_is c.args.l.now c.in-Joined.ls c.in-Joined.is) ∙ ap (λ k. JoinedOutline (outlines (take c.args.limit (declared_in c.args.t.now).layouts) (list_layouts k))) (sym c.deref-in-Joined.ensures.value))) c.add_joined.ensures.next

pub add_layout-returns-in-Joined-clause-made : goal.add_layout-returns-in-Joined-clause-made
add_layout-returns-in-Joined-clause-made t c =
    subst (λ o. OnOk c.add_joined.result (c.add_joined.new.made.items ≡ c.args.made.now.items ++ numbers_from c.args.next.now (total_named_words (unpacked_all (record_forms o))))) (sym (ap (outline (take c.args.limit (declared_in c.args.t.now).layouts)) (joined_is c.args.l.now c.in-Joined.ls c.in-Joined.is) ∙ ap (λ k. JoinedOutline (outlines (take c.args.limit (declared_in c.args.t.now).layouts) (list_layouts k))) (sym c.deref-in-Joined.ensures.value))) c.add_joined.ensures.made

pub add_joined-loop-l-preserved : goal.add_joined-loop-l-preserved
add_joined-loop-l-preserved t c =
    let e : (unpacked_all (joined_forms (outlines (take c.args.limit (declared_in c.args.t.now).layouts) (list_layouts (drop c.loop-l.l-index c.args.ls.now))))) ≡ tys_then (unpacked_all (record_forms (outline (take c.args.limit (declared_in c.args.t.now).layouts) (layout_tree c.l-item.result)))) (unpacked_all (joined_forms (outlines (take c.args.limit (declared_in c.args.t.now).layouts) (list_layouts (drop (c.loop-l.l-index + 1) c.args.ls.now))))) = ap (λ ls. unpacked_all (joined_forms (outlines (take c.args.limit (declared_in c.args.t.now).layouts) (list_layouts ls)))) (next_item c.args.ls.now c.loop-l.l-index c.l-item.result c.loop-l-test.true c.l-item.is) ∙ unpacked-then (record_forms (outline (take c.args.limit (declared_in c.args.t.now).layouts) (layout_tree c.l-item.result))) (joined_forms (outlines (take c.args.limit (declared_in c.args.t.now).layouts) (list_layouts (drop (c.loop-l.l-index + 1) c.args.ls.now)))) in
    let w : total_named_words (unpacked_all (joined_forms (outlines (take c.args.limit (declared_in c.args.t.now).layouts) (list_layouts (drop c.loop-l.l-index c.args.ls.now))))) ≡ total_named_words (unpacked_all (record_forms (outline (take c.args.limit (declared_in c.args.t.now).layouts) (layout_tree c.l-item.result)))) + total_named_words (unpacked_all (joined_forms (outlines (take c.args.limit (declared_in c.args.t.now).layouts) (list_layouts (drop (c.loop-l.l-index + 1) c.args.ls.now))))) = ap total_named_words e ∙ words-then (unpacked_all (record_forms (outline (take c.args.limit (declared_in c.args.t.now).layouts) (layout_tree c.l-item.result)))) (unpacked_all (joined_forms (outlines (take c.args.limit (declared_in c.args.t.now).layouts) (list_layouts (drop (c.loop-l.l-index + 1) c.args.ls.now))))) in
    record {
      fields = joined-turn c.loop-l.next c.add_layout.new.next (unpacked_all (record_forms (outline (take c.args.limit (declared_in c.args.t.now).layouts) (layout_tree c.l-item.result)))) (unpacked_all (joined_forms (outlines (take c.args.limit (declared_in c.args.t.now).layouts) (list_layouts (drop (c.loop-l.l-index + 1) c.args.ls.now))))) (unpacked_all (joined_forms (outlines (take c.args.limit (declared_in c.args.t.now).layouts) (list_layouts (drop c.loop-l.l-index c.args.ls.now))))) c.loop-l.fields.items c.add_layout.new.fields.items _ e c.in_ok-add_layout.ensures.fields c.in_ok-add_layout.ensures.next c.loop-l.invariant.fields;
      next = omega (arith, c.in_ok-add_layout.ensures.next, c.loop-l.invariant.next, w);
      made = numbers-turn c.loop-l.made.items c.add_layout.new.made.items _ c.loop-l.next c.add_layout.new.next (total_named_words (unpacked_all (record_forms (outline (take c.args.limit (declared_in c.args.t.now).layouts) (layout_tree c.l-item.result))))) (total_named_words (unpacked_all (joined_forms (outlines (take c.args.limit (declared_in c.args.t.now).layouts) (list_layouts (drop (c.loop-l.l-index + 1) c.args.ls.now)))))) (total_named_words (unpacked_all (joined_forms (outlines (take c.args.limit (declared_in c.args.t.now).layouts) (list_layouts (drop c.loop-l.l-index c.args.ls.now)))))) c.in_ok-add_layout.ensures.made c.in_ok-add_layout.ensures.next w c.loop-l.invariant.made;
      later = omega (arith, c.in_ok-add_layout.ensures.later, c.loop-l.invariant.later);
    }

pub add_joined-returns-clause-fields : goal.add_joined-returns-clause-fields
add_joined-returns-clause-fields t c =
    fields-done c.loop-l.next (unpacked_all (joined_forms (outlines (take c.args.limit (declared_in c.args.t.now).layouts) (list_layouts (drop c.loop-l.l-index c.args.ls.now))))) c.loop-l.fields.items _ (ap (λ ls. unpacked_all (joined_forms (outlines (take c.args.limit (declared_in c.args.t.now).layouts) (list_layouts ls)))) (drop_all c.loop-l.l-index c.args.ls.now (omega arith))) c.loop-l.invariant.fields

pub add_parts-loop-f-preserved : goal.add_parts-loop-f-preserved
add_parts-loop-f-preserved t c =
    let w : total_named_words (unpacked_all (forms_of (field_outlines (take c.args.limit (declared_in c.args.t.now).layouts) (list_fields (drop c.loop-f.f-index c.args.fs.now))))) ≡ words (unpacked (form_of (field_outline (take c.args.limit (declared_in c.args.t.now).layouts) (field_tree c.f-item.result.1)))) + total_named_words (unpacked_all (forms_of (field_outlines (take c.args.limit (declared_in c.args.t.now).layouts) (list_fields (drop (c.loop-f.f-index + 1) c.args.fs.now))))) = ap (λ fs. total_named_words (unpacked_all (forms_of (field_outlines (take c.args.limit (declared_in c.args.t.now).layouts) (list_fields fs))))) (next_item c.args.fs.now c.loop-f.f-index c.f-item.result c.loop-f-test.true c.f-item.is) in
    record {
      fields = fields-turn c.loop-f.next c.of_field.new.next c.f-item.result.0 (unpacked (form_of (field_outline (take c.args.limit (declared_in c.args.t.now).layouts) (field_tree c.f-item.result.1)))) (unpacked_all (forms_of (field_outlines (take c.args.limit (declared_in c.args.t.now).layouts) (list_fields (drop (c.loop-f.f-index + 1) c.args.fs.now))))) (unpacked_all (forms_of (field_outlines (take c.args.limit (declared_in c.args.t.now).layouts) (list_fields (drop c.loop-f.f-index c.args.fs.now))))) c.loop-f.fields.items c.push.new.self.items _ _ (ap (λ fs. unpacked_all (forms_of (field_outlines (take c.args.limit (declared_in c.args.t.now).layouts) (list_fields fs)))) (next_item c.args.fs.now c.loop-f.f-index c.f-item.result c.loop-f-test.true c.f-item.is)) refl c.in_ok-symbol.ensures.symbol c.in_ok-symbol.ensures.next c.in-Ok.ensures.items c.loop-f.invariant.fields;
      next = omega (arith, c.in_ok-symbol.ensures.next, c.loop-f.invariant.next, w);
      made = numbers-turn c.loop-f.made.items c.of_field.new.made.items _ c.loop-f.next c.of_field.new.next (words (unpacked (form_of (field_outline (take c.args.limit (declared_in c.args.t.now).layouts) (field_tree c.f-item.result.1))))) (total_named_words (unpacked_all (forms_of (field_outlines (take c.args.limit (declared_in c.args.t.now).layouts) (list_fields (drop (c.loop-f.f-index + 1) c.args.fs.now)))))) (total_named_words (unpacked_all (forms_of (field_outlines (take c.args.limit (declared_in c.args.t.now).layouts) (list_fields (drop c.loop-f.f-index c.args.fs.now)))))) c.in_ok-symbol.ensures.made c.in_ok-symbol.ensures.next w c.loop-f.invariant.made;
      later = omega (arith, c.in_ok-symbol.ensures.later, c.loop-f.invariant.later);
    }

pub add_parts-returns-clause-fields : goal.add_parts-returns-clause-fields
add_parts-returns-clause-fields t c =
    fields-done c.loop-f.next (unpacked_all (forms_of (field_outlines (take c.args.limit (declared_in c.args.t.now).layouts) (list_fields (drop c.loop-f.f-index c.args.fs.now))))) c.loop-f.fields.items _ (ap (λ fs. unpacked_all (forms_of (field_outlines (take c.args.limit (declared_in c.args.t.now).layouts) (list_fields fs)))) (drop_all c.loop-f.f-index c.args.fs.now (omega arith))) c.loop-f.invariant.fields

pub of_field-returns-in-Ok-clause-symbol : goal.of_field-returns-in-Ok-clause-symbol
of_field-returns-in-Ok-clause-symbol t c =
    record-view c.add_layout.new.fields ∙ ap (λ vs. Record vs) (c.in-Ok.ensures.fields ∙ ap (λ l. list_named_symbols l ++_symbols named_fresh c.args.next.now (unpacked_all (record_forms (outline (take c.args.limit (declared_in c.args.t.now).layouts) (layout_tree c.in-Inner.l))))) c.new-fields.ensures.items) ∙ sym (ap (λ f. fresh c.args.next.now (unpacked f)) (ap (λ k. form_of (field_outline (take c.args.limit (declared_in c.args.t.now).layouts) (field_tree k))) c.in-Inner.is ∙ layout-form (layout_pairs c.args.t.now.layouts.items) c.args.limit (layout_tree c.in-Inner.l)))

pub of_field-returns-in-Ok-clause-next : goal.of_field-returns-in-Ok-clause-next
of_field-returns-in-Ok-clause-next t c =
    c.in-Ok.ensures.next ∙ sym (ap (λ f. c.args.next.now + words (unpacked f)) (ap (λ k. form_of (field_outline (take c.args.limit (declared_in c.args.t.now).layouts) (field_tree k))) c.in-Inner.is ∙ layout-form (layout_pairs c.args.t.now.layouts.items) c.args.limit (layout_tree c.in-Inner.l)))

pub of_field-returns-in-Ok-clause-made : goal.of_field-returns-in-Ok-clause-made
of_field-returns-in-Ok-clause-made t c =
    c.in-Ok.ensures.made ∙ sym (ap (λ f. c.args.made.now.items ++ numbers_from c.args.next.now (words (unpacked f))) (ap (λ k. form_of (field_outline (take c.args.limit (declared_in c.args.t.now).layouts) (field_tree k))) c.in-Inner.is ∙ layout-form (layout_pairs c.args.t.now.layouts.items) c.args.limit (layout_tree c.in-Inner.l)))

pub of_field-returns-in-Ok-add_parts-clause-symbol : goal.of_field-returns-in-Ok-add_parts-clause-symbol
of_field-returns-in-Ok-add_parts-clause-symbol t c =
    record-view c.add_parts.new.fields ∙ ap (λ vs. Record vs) (c.in-Ok-add_parts.ensures.fields ∙ ap (λ l. list_named_symbols l ++_symbols named_fresh c.args.next.now (unpacked_all (forms_of (field_outlines (take c.args.limit (declared_in c.args.t.now).layouts) (list_fields c.deref.result.now))))) c.new-fields-in-Overlay.ensures.items) ∙ sym (ap (λ f. fresh c.args.next.now (unpacked f)) (ap form_of (ap (field_outline (take c.args.limit (declared_in c.args.t.now).layouts)) (overlay_is c.args.f.now c.in-Overlay.fs c.in-Overlay.is) ∙ ap (λ k. OverlayOutline (field_outlines (take c.args.limit (declared_in c.args.t.now).layouts) (list_fields k))) (sym c.deref.ensures.value))))

pub of_field-returns-in-Ok-add_parts-clause-next : goal.of_field-returns-in-Ok-add_parts-clause-next
of_field-returns-in-Ok-add_parts-clause-next t c =
    c.in-Ok-add_parts.ensures.next ∙ sym (ap (λ f. c.args.next.now + words (unpacked f)) (ap form_of (ap (field_outline (take c.args.limit (declared_in c.args.t.now).layouts)) (overlay_is c.args.f.now c.in-Overlay.fs c.in-Overlay.is) ∙ ap (λ k. OverlayOutline (field_outlines (take c.args.limit (declared_in c.args.t.now).layouts) (list_fields k))) (sym c.deref.ensures.value))))

pub of_field-returns-in-Ok-add_parts-clause-made : goal.of_field-returns-in-Ok-add_parts-clause-made
of_field-returns-in-Ok-add_parts-clause-made t c =
    c.in-Ok-add_parts.ensures.made ∙ sym (ap (λ f. c.args.made.now.items ++ numbers_from c.args.next.now (words (unpacked f))) (ap form_of (ap (field_outline (take c.args.limit (declared_in c.args.t.now).layouts)) (overlay_is c.args.f.now c.in-Overlay.fs c.in-Overlay.is) ∙ ap (λ k. OverlayOutline (field_outlines (take c.args.limit (declared_in c.args.t.now).layouts) (list_fields k))) (sym c.deref.ensures.value))))
