use Rattle.std.proofs.Common.{◌≡◌, ◌∙◌, ◌+◌, ◌≤◌, min, ap, sym, subst, arith, take, drop, length, OnOk, IfOk}
use Rattle.std.proofs.lemmas.List.{take_all}
use Rattle.std.below.core.specs.declared.int.u64.TheConstants.{MAX}
use Rattle.nv_ast.specs.Bits.{packed}
use Rattle.nv_ast.specs.LayoutView.{layout_tree, field_tree, list_fields, list_layouts}
use Rattle.nv_ast.specs.Outline.{PartsOutline, JoinedOutline, OverlayOutline, outline, outlines, field_outline, field_outlines, size, total_size, total_named_size, longest, outline_height}
use Rattle.nv_ast.proofs.Reading.{parts_is, joined_is, overlay_is}
use Rattle.nv_layout.proofs.BitLists.{length-packed}
use Rattle.nv_meaning_values.specs.Values.{Word, Record, ◌++_fields◌, fields_of, named_value_and, no_named_values}
use Rattle.nv_meaning_values.specs.Packing.{value_at, parts_at, alternatives_at, joined_at}
use Rattle.nv_meaning_values.specs.inner.TableView.{declared_in}
use Rattle.nv_meaning_values.specs.inner.View.{list_named_values}
use Rattle.nv_meaning_values.specs.inner.Tables.{layout_pairs}
use Rattle.nv_meaning.proofs.Records.{layout-record}
use Rattle.nv_meaning_values.proofs.Rows.{record_view}
use Rattle.nv_meaning_values.proofs.Unpacking.{alias_rank, alias-low, alias-none, fields-none, fields-append, fields-step, drop-at, total_named_more, longest_more, parts_more, alternatives_more, highest_named_within, total_more, joined_more, highest_within}
use Rattle.nv_meaning.proofs.unpack.+unpack.Goals as goal

pub add_fields-add_fields-requires : goal.add_fields-add_fields-requires
add_fields-add_fields-requires t c =
    let e = ap outline_height (ap (λ k. outline (take c.args.limit (declared_in c.args.t.now).layouts) (layout_tree k)) c.in-Named.is ∙ c.in-Some.ensures.outline) in
    let r = alias-none (layout_tree c.in-Some.named.now) c.in-Some.ensures.unnamed in
    let s : alias_rank (layout_tree c.args.l.now) ≡ 1 = ap (λ k. alias_rank (layout_tree k)) c.in-Named.is in
    (omega (arith, c.decreases), c.requires)

pub add_fields-add_parts-requires : goal.add_fields-add_parts-requires
add_fields-add_parts-requires t c =
    let e = ap outline_height (ap (outline (take c.args.limit (declared_in c.args.t.now).layouts)) (parts_is c.args.l.now c.in-Parts.fs c.in-Parts.is) ∙ ap (λ k. PartsOutline (field_outlines (take c.args.limit (declared_in c.args.t.now).layouts) (list_fields k))) (sym c.deref.ensures.value)) in
    (omega (arith, c.decreases), c.requires)

pub add_fields-add_joined-requires : goal.add_fields-add_joined-requires
add_fields-add_joined-requires t c =
    let e = ap outline_height (ap (outline (take c.args.limit (declared_in c.args.t.now).layouts)) (joined_is c.args.l.now c.in-Joined.ls c.in-Joined.is) ∙ ap (λ k. JoinedOutline (outlines (take c.args.limit (declared_in c.args.t.now).layouts) (list_layouts k))) (sym c.deref-in-Joined.ensures.value)) in
    (omega (arith, c.decreases), c.requires)

pub add_joined-add_fields-requires : goal.add_joined-add_fields-requires
add_joined-add_fields-requires t c =
    (omega (arith, c.decreases, highest_within (take c.args.limit (declared_in c.args.t.now).layouts) c.args.ls.now c.loop-l.l-index c.l-item.result c.loop-l-test.true c.l-item.is, alias-low (layout_tree c.l-item.result)), c.requires)

pub add_parts-field_value-requires : goal.add_parts-field_value-requires
add_parts-field_value-requires t c =
    (omega (arith, c.decreases, highest_named_within (take c.args.limit (declared_in c.args.t.now).layouts) c.args.fs.now c.loop-f.f-index c.f-item.result c.loop-f-test.true c.f-item.is), c.requires)

pub add_alternatives-field_value-requires : goal.add_alternatives-field_value-requires
add_alternatives-field_value-requires t c =
    (omega (arith, c.decreases, highest_named_within (take c.args.limit (declared_in c.args.t.now).layouts) c.args.fs.now c.loop-f.f-index c.f-item.result c.loop-f-test.true c.f-item.is), c.requires)

pub field_value-add_fields-requires : goal.field_value-add_fields-requires
field_value-add_fields-requires t c =
    let e = ap outline_height (ap (λ k. field_outline (take c.args.limit (declared_in c.args.t.now).layouts) (field_tree k)) c.in-Inner.is) in
    (omega (arith, c.decreases, alias-low (layout_tree c.in-Inner.l)), c.requires)

pub field_value-add_alternatives-requires : goal.field_value-add_alternatives-requires
field_value-add_alternatives-requires t c =
    let e = ap outline_height (ap (field_outline (take c.args.limit (declared_in c.args.t.now).layouts)) (overlay_is c.args.f.now c.in-Overlay.fs c.in-Overlay.is) ∙ ap (λ k. OverlayOutline (field_outlines (take c.args.limit (declared_in c.args.t.now).layouts) (list_fields k))) (sym c.deref.ensures.value)) in
    (omega (arith, c.decreases), c.requires)

pub add_fields-returns-in-Some-clause-fields : goal.add_fields-returns-in-Some-clause-fields
add_fields-returns-in-Some-clause-fields t c =
    subst (λ o. OnOk c.add_fields.result (list_named_values c.add_fields.new.fields.items ≡ list_named_values c.args.fields.now.items ++_fields fields_of (value_at o (drop c.args.at (packed c.args.words.now))))) (sym (ap (λ k. outline (take c.args.limit (declared_in c.args.t.now).layouts) (layout_tree k)) c.in-Named.is ∙ c.in-Some.ensures.outline)) c.add_fields.ensures.fields

pub add_fields-returns-in-Some-clause-behind : goal.add_fields-returns-in-Some-clause-behind
add_fields-returns-in-Some-clause-behind t c =
    subst (λ o. IfOk c.add_fields.result (λ i. i ≡ min (c.args.at + size o) MAX)) (sym (ap (λ k. outline (take c.args.limit (declared_in c.args.t.now).layouts) (layout_tree k)) c.in-Named.is ∙ c.in-Some.ensures.outline)) c.add_fields.ensures.behind

pub add_fields-returns-in-Parts-clause-fields : goal.add_fields-returns-in-Parts-clause-fields
add_fields-returns-in-Parts-clause-fields t c =
    subst (λ o. OnOk c.add_parts.result (list_named_values c.add_parts.new.fields.items ≡ list_named_values c.args.fields.now.items ++_fields fields_of (value_at o (drop c.args.at (packed c.args.words.now))))) (sym (ap (outline (take c.args.limit (declared_in c.args.t.now).layouts)) (parts_is c.args.l.now c.in-Parts.fs c.in-Parts.is) ∙ ap (λ k. PartsOutline (field_outlines (take c.args.limit (declared_in c.args.t.now).layouts) (list_fields k))) (sym c.deref.ensures.value))) c.add_parts.ensures.fields

pub add_fields-returns-in-Parts-clause-behind : goal.add_fields-returns-in-Parts-clause-behind
add_fields-returns-in-Parts-clause-behind t c =
    subst (λ o. IfOk c.add_parts.result (λ i. i ≡ min (c.args.at + size o) MAX)) (sym (ap (outline (take c.args.limit (declared_in c.args.t.now).layouts)) (parts_is c.args.l.now c.in-Parts.fs c.in-Parts.is) ∙ ap (λ k. PartsOutline (field_outlines (take c.args.limit (declared_in c.args.t.now).layouts) (list_fields k))) (sym c.deref.ensures.value))) c.add_parts.ensures.behind

pub add_fields-returns-in-Joined-clause-fields : goal.add_fields-returns-in-Joined-clause-fields
add_fields-returns-in-Joined-clause-fields t c =
    subst (λ o. OnOk c.add_joined.result (list_named_values c.add_joined.new.fields.items ≡ list_named_values c.args.fields.now.items ++_fields fields_of (value_at o (drop c.args.at (packed c.args.words.now))))) (sym (ap (outline (take c.args.limit (declared_in c.args.t.now).layouts)) (joined_is c.args.l.now c.in-Joined.ls c.in-Joined.is) ∙ ap (λ k. JoinedOutline (outlines (take c.args.limit (declared_in c.args.t.now).layouts) (list_layouts k))) (sym c.deref-in-Joined.ensures.value))) c.add_joined.ensures.fields

pub add_fields-returns-in-Joined-clause-behind : goal.add_fields-returns-in-Joined-clause-behind
add_fields-returns-in-Joined-clause-behind t c =
    subst (λ o. IfOk c.add_joined.result (λ i. i ≡ min (c.args.at + size o) MAX)) (sym (ap (outline (take c.args.limit (declared_in c.args.t.now).layouts)) (joined_is c.args.l.now c.in-Joined.ls c.in-Joined.is) ∙ ap (λ k. JoinedOutline (outlines (take c.args.limit (declared_in c.args.t.now).layouts) (list_layouts k))) (sym c.deref-in-Joined.ensures.value))) c.add_joined.ensures.behind

pub add_fields-returns-in-None-clause-fields : goal.add_fields-returns-in-None-clause-fields
add_fields-returns-in-None-clause-fields t c =
    sym (ap (λ o. list_named_values c.args.fields.now.items ++_fields fields_of (value_at o (drop c.args.at (packed c.args.words.now)))) (ap (λ k. outline (take c.args.limit (declared_in c.args.t.now).layouts) (layout_tree k)) c.in-Named.is ∙ c.in-None.ensures.outline) ∙ fields-none (list_named_values c.args.fields.now.items))

pub add_fields-returns-in-Gap-clause-fields : goal.add_fields-returns-in-Gap-clause-fields
add_fields-returns-in-Gap-clause-fields t c =
    sym (ap (λ o. list_named_values c.args.fields.now.items ++_fields fields_of (value_at o (drop c.args.at (packed c.args.words.now)))) (ap (λ k. outline (take c.args.limit (declared_in c.args.t.now).layouts) (layout_tree k)) c.in-Gap.is) ∙ fields-none (list_named_values c.args.fields.now.items))

pub add_fields-returns-in-None-clause-behind : goal.add_fields-returns-in-None-clause-behind
add_fields-returns-in-None-clause-behind t c =
    let s = ap size (ap (λ k. outline (take c.args.limit (declared_in c.args.t.now).layouts) (layout_tree k)) c.in-Named.is ∙ c.in-None.ensures.outline) in
    omega (arith, c.ranges.at.fits)

pub add_fields-returns-in-Gap-clause-behind : goal.add_fields-returns-in-Gap-clause-behind
add_fields-returns-in-Gap-clause-behind t c =
    let s = ap size (ap (λ k. outline (take c.args.limit (declared_in c.args.t.now).layouts) (layout_tree k)) c.in-Gap.is) in
    omega (arith, c.saturating_add.ensures)

pub add_joined-loop-l-init : goal.add_joined-loop-l-init
add_joined-loop-l-init t c =
    record {
      behind = omega (arith, c.ranges.first.fits);
      fields = sym (fields-none (list_named_values c.args.fields.now.items));
    }

pub add_joined-loop-l-preserved : goal.add_joined-loop-l-preserved
add_joined-loop-l-preserved t c =
    let small : length (packed c.args.words.now) ≤ MAX = omega (arith, length-packed c.args.words.now) in
    let o = outline (take c.args.limit (declared_in c.args.t.now).layouts) (layout_tree c.l-item.result) in
    let k = total_size (outlines (take c.args.limit (declared_in c.args.t.now).layouts) (list_layouts (take c.loop-l.l-index c.args.ls.now))) in
    record {
      behind = omega (arith, c.loop-l.invariant.behind, total_more (take c.args.limit (declared_in c.args.t.now).layouts) c.args.ls.now c.loop-l.l-index c.l-item.result c.loop-l-test.true c.l-item.is, c.in_ok-at.ensures.behind);
      fields = fields-step _ _ _ _ _ _
          (c.in_ok-at.ensures.fields ∙ ap (λ d. list_named_values c.loop-l.fields.items ++_fields fields_of (value_at o d)) (drop-at c.loop-l.at c.args.first k MAX (packed c.args.words.now) small c.loop-l.invariant.behind))
          c.loop-l.invariant.fields
          (joined_more (take c.args.limit (declared_in c.args.t.now).layouts) c.args.ls.now c.loop-l.l-index c.l-item.result (drop c.args.first (packed c.args.words.now)) c.loop-l-test.true c.l-item.is);
    }

pub add_joined-returns-clause-fields : goal.add_joined-returns-clause-fields
add_joined-returns-clause-fields t c =
    c.loop-l.invariant.fields ∙ ap (λ l. list_named_values c.args.fields.now.items ++_fields joined_at (outlines (take c.args.limit (declared_in c.args.t.now).layouts) (list_layouts l)) (drop c.args.first (packed c.args.words.now))) (take_all c.loop-l.l-index c.args.ls.now (omega arith))

pub add_joined-returns-clause-behind : goal.add_joined-returns-clause-behind
add_joined-returns-clause-behind t c =
    c.loop-l.invariant.behind ∙ ap (λ l. min (c.args.first + total_size (outlines (take c.args.limit (declared_in c.args.t.now).layouts) (list_layouts l))) MAX) (take_all c.loop-l.l-index c.args.ls.now (omega arith))

pub add_parts-loop-f-init : goal.add_parts-loop-f-init
add_parts-loop-f-init t c =
    record {
      behind = omega (arith, c.ranges.first.fits);
      fields = sym (fields-none (list_named_values c.args.fields.now.items));
    }

pub add_parts-loop-f-preserved : goal.add_parts-loop-f-preserved
add_parts-loop-f-preserved t c =
    let small : length (packed c.args.words.now) ≤ MAX = omega (arith, length-packed c.args.words.now) in
    let o = field_outline (take c.args.limit (declared_in c.args.t.now).layouts) (field_tree c.f-item.result.1) in
    let k = total_named_size (field_outlines (take c.args.limit (declared_in c.args.t.now).layouts) (list_fields (take c.loop-f.f-index c.args.fs.now))) in
    record {
      behind = omega (arith, c.loop-f.invariant.behind, total_named_more (take c.args.limit (declared_in c.args.t.now).layouts) c.args.fs.now c.loop-f.f-index c.f-item.result c.loop-f-test.true c.f-item.is, c.in_ok-v.ensures.behind);
      fields = fields-step _ _ _ _ _ _
          (ap list_named_values c.in_ok-push.ensures.items ∙ fields-append c.loop-f.fields.items _ ∙ ap (λ u. list_named_values c.loop-f.fields.items ++_fields named_value_and c.f-item.result.0 u no_named_values) (c.in_ok-v.ensures.value ∙ ap (value_at o) (drop-at c.loop-f.at c.args.first k MAX (packed c.args.words.now) small c.loop-f.invariant.behind)))
          c.loop-f.invariant.fields
          (parts_more (take c.args.limit (declared_in c.args.t.now).layouts) c.args.fs.now c.loop-f.f-index c.f-item.result (drop c.args.first (packed c.args.words.now)) c.loop-f-test.true c.f-item.is);
    }

pub add_parts-returns-clause-fields : goal.add_parts-returns-clause-fields
add_parts-returns-clause-fields t c =
    c.loop-f.invariant.fields ∙ ap (λ l. list_named_values c.args.fields.now.items ++_fields parts_at (field_outlines (take c.args.limit (declared_in c.args.t.now).layouts) (list_fields l)) (drop c.args.first (packed c.args.words.now))) (take_all c.loop-f.f-index c.args.fs.now (omega arith))

pub add_parts-returns-clause-behind : goal.add_parts-returns-clause-behind
add_parts-returns-clause-behind t c =
    c.loop-f.invariant.behind ∙ ap (λ l. min (c.args.first + total_named_size (field_outlines (take c.args.limit (declared_in c.args.t.now).layouts) (list_fields l))) MAX) (take_all c.loop-f.f-index c.args.fs.now (omega arith))

pub add_alternatives-loop-f-init : goal.add_alternatives-loop-f-init
add_alternatives-loop-f-init t c =
    record {
      behind = omega (arith, c.ranges.at.fits);
      fields = sym (fields-none (list_named_values c.args.fields.now.items));
    }

pub add_alternatives-loop-f-preserved : goal.add_alternatives-loop-f-preserved
add_alternatives-loop-f-preserved t c =
    let o = field_outline (take c.args.limit (declared_in c.args.t.now).layouts) (field_tree c.f-item.result.1) in
    let k = longest (field_outlines (take c.args.limit (declared_in c.args.t.now).layouts) (list_fields (take c.loop-f.f-index c.args.fs.now))) in
    record {
      behind = omega (arith, c.loop-f.invariant.behind, longest_more (take c.args.limit (declared_in c.args.t.now).layouts) c.args.fs.now c.loop-f.f-index c.f-item.result c.loop-f-test.true c.f-item.is, c.in_ok-v.ensures.behind, c.max-last.ensures);
      fields = fields-step _ _ _ _ _ _
          (ap list_named_values c.in_ok-push.ensures.items ∙ fields-append c.loop-f.fields.items _ ∙ ap (λ u. list_named_values c.loop-f.fields.items ++_fields named_value_and c.f-item.result.0 u no_named_values) (c.in_ok-v.ensures.value))
          c.loop-f.invariant.fields
          (alternatives_more (take c.args.limit (declared_in c.args.t.now).layouts) c.args.fs.now c.loop-f.f-index c.f-item.result (drop c.args.at (packed c.args.words.now)) c.loop-f-test.true c.f-item.is);
    }

pub add_alternatives-returns-clause-fields : goal.add_alternatives-returns-clause-fields
add_alternatives-returns-clause-fields t c =
    c.loop-f.invariant.fields ∙ ap (λ l. list_named_values c.args.fields.now.items ++_fields alternatives_at (field_outlines (take c.args.limit (declared_in c.args.t.now).layouts) (list_fields l)) (drop c.args.at (packed c.args.words.now))) (take_all c.loop-f.f-index c.args.fs.now (omega arith))

pub add_alternatives-returns-clause-behind : goal.add_alternatives-returns-clause-behind
add_alternatives-returns-clause-behind t c =
    c.loop-f.invariant.behind ∙ ap (λ l. min (c.args.at + longest (field_outlines (take c.args.limit (declared_in c.args.t.now).layouts) (list_fields l))) MAX) (take_all c.loop-f.f-index c.args.fs.now (omega arith))

pub field_value-returns-in-Bits-clause-value : goal.field_value-returns-in-Bits-clause-value
field_value-returns-in-Bits-clause-value t c =
    ap (λ w. Word w) c.number_at.ensures ∙ sym (ap (λ o. value_at o (drop c.args.at (packed c.args.words.now))) (ap (λ k. field_outline (take c.args.limit (declared_in c.args.t.now).layouts) (field_tree k)) c.in-Bits.is))

pub field_value-returns-in-Bits-clause-behind : goal.field_value-returns-in-Bits-clause-behind
field_value-returns-in-Bits-clause-behind t c =
    let s = ap size (ap (λ k. field_outline (take c.args.limit (declared_in c.args.t.now).layouts) (field_tree k)) c.in-Bits.is) in
    omega (arith, c.saturating_add.ensures)

pub field_value-returns-in_ok-behind-in-Inner-clause-value : goal.field_value-returns-in_ok-behind-in-Inner-clause-value
field_value-returns-in_ok-behind-in-Inner-clause-value t c =
    record_view c.add_fields.new.fields ∙ ap (λ vs. Record vs) (c.in_ok-behind-in-Inner.ensures.fields ∙ ap (λ l. list_named_values l ++_fields fields_of (value_at (outline (take c.args.limit (declared_in c.args.t.now).layouts) (layout_tree c.in-Inner.l)) (drop c.args.at (packed c.args.words.now)))) c.new-fields.ensures.items) ∙ sym (layout-record (layout_pairs c.args.t.now.layouts.items) c.args.limit (layout_tree c.in-Inner.l) (drop c.args.at (packed c.args.words.now))) ∙ sym (ap (λ o. value_at o (drop c.args.at (packed c.args.words.now))) (ap (λ k. field_outline (take c.args.limit (declared_in c.args.t.now).layouts) (field_tree k)) c.in-Inner.is))

pub field_value-returns-in_ok-behind-in-Inner-clause-behind : goal.field_value-returns-in_ok-behind-in-Inner-clause-behind
field_value-returns-in_ok-behind-in-Inner-clause-behind t c =
    c.in_ok-behind-in-Inner.ensures.behind ∙ sym (ap (λ o. min (c.args.at + size o) MAX) (ap (λ k. field_outline (take c.args.limit (declared_in c.args.t.now).layouts) (field_tree k)) c.in-Inner.is))

pub field_value-returns-in_ok-behind-in-Overlay-clause-value : goal.field_value-returns-in_ok-behind-in-Overlay-clause-value
field_value-returns-in_ok-behind-in-Overlay-clause-value t c =
    record_view c.add_alternatives.new.fields ∙ ap (λ vs. Record vs) (c.in_ok-behind-in-Overlay.ensures.fields ∙ ap (λ l. list_named_values l ++_fields alternatives_at (field_outlines (take c.args.limit (declared_in c.args.t.now).layouts) (list_fields c.deref.result.now)) (drop c.args.at (packed c.args.words.now))) c.new-fields-in-Overlay.ensures.items) ∙ sym (ap (λ o. value_at o (drop c.args.at (packed c.args.words.now))) (ap (field_outline (take c.args.limit (declared_in c.args.t.now).layouts)) (overlay_is c.args.f.now c.in-Overlay.fs c.in-Overlay.is) ∙ ap (λ k. OverlayOutline (field_outlines (take c.args.limit (declared_in c.args.t.now).layouts) (list_fields k))) (sym c.deref.ensures.value)))

pub field_value-returns-in_ok-behind-in-Overlay-clause-behind : goal.field_value-returns-in_ok-behind-in-Overlay-clause-behind
field_value-returns-in_ok-behind-in-Overlay-clause-behind t c =
    c.in_ok-behind-in-Overlay.ensures.behind ∙ sym (ap (λ o. min (c.args.at + size o) MAX) (ap (field_outline (take c.args.limit (declared_in c.args.t.now).layouts)) (overlay_is c.args.f.now c.in-Overlay.fs c.in-Overlay.is) ∙ ap (λ k. OverlayOutline (field_outlines (take c.args.limit (declared_in c.args.t.now).layouts) (list_fields k))) (sym c.deref.ensures.value)))
