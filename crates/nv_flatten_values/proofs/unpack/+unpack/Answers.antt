use Rattle.std.proofs.Common.{◌≡◌, ◌∙◌, ◌+◌, ◌*◌, ◌≤◌, min, ap, sym, refl, subst, arith, List, take, drop, length, IfOk}
use Rattle.std.proofs.lemmas.List.{take_all}
use Rattle.std.proofs.lemmas.Result.{IfOk-weaker}
use Rattle.std.below.core.specs.declared.int.u64.TheConstants.{MAX}
use Rattle.nv_ast.specs.Bits.{number, packed, slice}
use Rattle.nv_ast.specs.declared.tree.LayoutText.{LayoutText}
use Rattle.nv_ast.specs.LayoutView.{layout_tree, field_tree, list_fields, list_layouts}
use Rattle.nv_ast.specs.Outline.{OutlineTree, BitsOutline, PartsOutline, JoinedOutline, OverlayOutline, outline, outlines, field_outline, field_outlines, size, longest, outline_height, bit_fields, part_fields, alternative_fields, joined_fields, IsSound}
use Rattle.nv_ast.specs.Types.{form_of, forms_of, joined_forms, record_forms}
use Rattle.nv_ast.proofs.Reading.{parts_is, joined_is, overlay_is}
use Rattle.nv_meaning.specs.Values.{Word, fields_of, named_value_and, no_named_values}
use Rattle.nv_meaning.specs.Packing.{value_at, parts_at, alternatives_at, joined_at}
use Rattle.nv_meaning_values.specs.inner.TableView.{declared_in}
use Rattle.nv_meaning_values.specs.inner.Tables.{layout_pairs}
use Rattle.nv_meaning.proofs.Records.{layout-record}
use Rattle.nv_meaning_values.proofs.Unpacking.{FieldItem, alias-low, total_named_more, longest_more, highest_named_within, total_more, highest_within}
use Rattle.nv_flatten_values.specs.inner.Symbols.{NamedSymbols, no_named_symbols, named_symbol_and, named_operands}
use Rattle.nv_flatten_values.specs.inner.View.{list_named_symbols}
use Rattle.nv_flatten_values.specs.inner.Reads.{◌++_symbols◌, Reads, ReadsRecord, ReadsField}
use Rattle.nv_flatten_values.proofs.Reading.{PartsFit, AlternativesFit, JoinedFit, symbols-append, reads-none, reads-weaker, reads-word, reads-record, parts-turn, alternatives-turn, joined-turn}
use Rattle.nv_flatten_values.proofs.RecordForms.{layout-form}
use Rattle.nv_flatten_values.proofs.Rows.{record_view}
use Rattle.nv_flatten_values.specs.inner.Symbols as symbols
use Rattle.nv_flatten_values.proofs.Lets.{fields-none, adds-field, adds-inner, adds-turn}
use Rattle.nv_flatten_values.specs.inner.FewReads.{ReadsFew}
use Rattle.nv_flatten_values.proofs.FieldCounts.{parts-count, alternatives-count, joined-count}
use Rattle.nv_flatten_values.proofs.FewFields.{reads-few-none, reads-few-turn, reads-few-word, reads-few-inner}
use Rattle.nv_flatten_values.proofs.unpack.+unpack.Goals as goal

pub add_fields-add_parts-requires : goal.add_fields-add_parts-requires
add_fields-add_parts-requires t c =
    let e = ap outline_height (ap (outline (take c.args.limit (declared_in c.args.t.now).layouts)) (parts_is c.args.l.now c.in-Parts.fs c.in-Parts.is) ∙ ap (λ k. PartsOutline (field_outlines (take c.args.limit (declared_in c.args.t.now).layouts) (list_fields k))) (sym c.deref.ensures.value)) in
    (omega (arith, c.decreases), c.requires)

pub add_fields-add_joined-requires : goal.add_fields-add_joined-requires
add_fields-add_joined-requires t c =
    let e = ap outline_height (ap (outline (take c.args.limit (declared_in c.args.t.now).layouts)) (joined_is c.args.l.now c.in-Joined.ls c.in-Joined.is) ∙ ap (λ k. JoinedOutline (outlines (take c.args.limit (declared_in c.args.t.now).layouts) (list_layouts k))) (sym c.deref-in-Joined.ensures.value)) in
    (omega (arith, c.decreases), c.requires)

pub add_joined-add_fields-requires : goal.add_joined-add_fields-requires
add_joined-add_fields-requires t c =
    (omega (arith, c.decreases, highest_within (take c.args.limit (declared_in c.args.t.now).layouts) c.args.ls.now c.loop-l.l-index c.l-item.result c.loop-l-test.true c.l-item.is, alias-low (layout_tree c.l-item.result)), c.requires)

pub add_parts-add_field-requires : goal.add_parts-add_field-requires
add_parts-add_field-requires t c =
    (omega (arith, c.decreases, highest_named_within (take c.args.limit (declared_in c.args.t.now).layouts) c.args.fs.now c.loop-f.f-index c.f-item.result c.loop-f-test.true c.f-item.is), c.requires)

pub add_alternatives-add_field-requires : goal.add_alternatives-add_field-requires
add_alternatives-add_field-requires t c =
    (omega (arith, c.decreases, highest_named_within (take c.args.limit (declared_in c.args.t.now).layouts) c.args.fs.now c.loop-f.f-index c.f-item.result c.loop-f-test.true c.f-item.is), c.requires)

pub add_field-add_alternatives-requires : goal.add_field-add_alternatives-requires
add_field-add_alternatives-requires t c =
    let e = ap outline_height (ap (field_outline (take c.args.limit (declared_in c.args.t.now).layouts)) (overlay_is c.args.f.now.1 c.in-Overlay.fs c.in-Overlay.is) ∙ ap (λ k. OverlayOutline (field_outlines (take c.args.limit (declared_in c.args.t.now).layouts) (list_fields k))) (sym c.deref.ensures.value)) in
    (omega (arith, c.decreases), c.requires)

pub add_fields-returns-in-None-clause-reads : goal.add_fields-returns-in-None-clause-reads
add_fields-returns-in-None-clause-reads t c =
    subst (λ (o : OutlineTree). ReadsRecord o c.args.at c.args.next.now c.args.next.now c.args.words.now c.args.steps.now.items c.args.steps.now.items (list_named_symbols c.args.fields.now.items) (list_named_symbols c.args.fields.now.items)) (sym (ap (λ k. outline (take c.args.limit (declared_in c.args.t.now).layouts) (layout_tree k)) c.in-Named.is ∙ c.in-None.ensures.outline))
    (reads-none _ c.args.next.now c.args.words.now c.args.steps.now.items (list_named_symbols c.args.fields.now.items) (λ xs. no_named_values) (λ xs. refl))

pub add_fields-returns-in-Gap-clause-reads : goal.add_fields-returns-in-Gap-clause-reads
add_fields-returns-in-Gap-clause-reads t c =
    subst (λ (o : OutlineTree). ReadsRecord o c.args.at c.args.next.now c.args.next.now c.args.words.now c.args.steps.now.items c.args.steps.now.items (list_named_symbols c.args.fields.now.items) (list_named_symbols c.args.fields.now.items)) (sym (ap (λ k. outline (take c.args.limit (declared_in c.args.t.now).layouts) (layout_tree k)) c.in-Gap.is))
    (reads-none _ c.args.next.now c.args.words.now c.args.steps.now.items (list_named_symbols c.args.fields.now.items) (λ xs. no_named_values) (λ xs. refl))

pub add_fields-returns-in-Parts-clause-reads : goal.add_fields-returns-in-Parts-clause-reads
add_fields-returns-in-Parts-clause-reads t c =
    IfOk-weaker c.add_parts.result _ _
    (λ i m. subst (λ (o : OutlineTree). ReadsRecord o c.args.at c.args.next.now c.add_parts.new.next c.args.words.now c.args.steps.now.items c.add_parts.new.steps.items (list_named_symbols c.args.fields.now.items) (list_named_symbols c.add_parts.new.fields.items)) (sym (ap (outline (take c.args.limit (declared_in c.args.t.now).layouts)) (parts_is c.args.l.now c.in-Parts.fs c.in-Parts.is) ∙ ap (λ k. PartsOutline (field_outlines (take c.args.limit (declared_in c.args.t.now).layouts) (list_fields k))) (sym c.deref.ensures.value)))
    (reads-weaker (PartsFit (take c.args.limit (declared_in c.args.t.now).layouts) c.deref.result.now c.args.at c.args.words.now) _ c.args.next.now c.add_parts.new.next c.args.words.now c.args.steps.now.items c.add_parts.new.steps.items (list_named_symbols c.args.fields.now.items) (list_named_symbols c.add_parts.new.fields.items) (forms_of (field_outlines (take c.args.limit (declared_in c.args.t.now).layouts) (list_fields c.deref.result.now))) (λ xs. parts_at (field_outlines (take c.args.limit (declared_in c.args.t.now).layouts) (list_fields c.deref.result.now)) (drop c.args.at (packed xs))) m (λ q. (q.0.0, q.1))))
    c.add_parts.ensures.reads

pub add_fields-returns-in-Parts-clause-behind : goal.add_fields-returns-in-Parts-clause-behind
add_fields-returns-in-Parts-clause-behind t c =
    subst (λ (o : OutlineTree). IfOk c.add_parts.result (λ i. i ≡ min (c.args.at + size o) MAX)) (sym (ap (outline (take c.args.limit (declared_in c.args.t.now).layouts)) (parts_is c.args.l.now c.in-Parts.fs c.in-Parts.is) ∙ ap (λ k. PartsOutline (field_outlines (take c.args.limit (declared_in c.args.t.now).layouts) (list_fields k))) (sym c.deref.ensures.value))) c.add_parts.ensures.behind

pub add_fields-returns-in-Joined-clause-reads : goal.add_fields-returns-in-Joined-clause-reads
add_fields-returns-in-Joined-clause-reads t c =
    IfOk-weaker c.add_joined.result _ _
    (λ i m. subst (λ (o : OutlineTree). ReadsRecord o c.args.at c.args.next.now c.add_joined.new.next c.args.words.now c.args.steps.now.items c.add_joined.new.steps.items (list_named_symbols c.args.fields.now.items) (list_named_symbols c.add_joined.new.fields.items)) (sym (ap (outline (take c.args.limit (declared_in c.args.t.now).layouts)) (joined_is c.args.l.now c.in-Joined.ls c.in-Joined.is) ∙ ap (λ k. JoinedOutline (outlines (take c.args.limit (declared_in c.args.t.now).layouts) (list_layouts k))) (sym c.deref-in-Joined.ensures.value)))
    (reads-weaker (JoinedFit (take c.args.limit (declared_in c.args.t.now).layouts) c.deref-in-Joined.result.now c.args.at c.args.words.now) _ c.args.next.now c.add_joined.new.next c.args.words.now c.args.steps.now.items c.add_joined.new.steps.items (list_named_symbols c.args.fields.now.items) (list_named_symbols c.add_joined.new.fields.items) (joined_forms (outlines (take c.args.limit (declared_in c.args.t.now).layouts) (list_layouts c.deref-in-Joined.result.now))) (λ xs. joined_at (outlines (take c.args.limit (declared_in c.args.t.now).layouts) (list_layouts c.deref-in-Joined.result.now)) (drop c.args.at (packed xs))) m (λ q. (q.0.0, q.1))))
    c.add_joined.ensures.reads

pub add_fields-returns-in-Joined-clause-behind : goal.add_fields-returns-in-Joined-clause-behind
add_fields-returns-in-Joined-clause-behind t c =
    subst (λ (o : OutlineTree). IfOk c.add_joined.result (λ i. i ≡ min (c.args.at + size o) MAX)) (sym (ap (outline (take c.args.limit (declared_in c.args.t.now).layouts)) (joined_is c.args.l.now c.in-Joined.ls c.in-Joined.is) ∙ ap (λ k. JoinedOutline (outlines (take c.args.limit (declared_in c.args.t.now).layouts) (list_layouts k))) (sym c.deref-in-Joined.ensures.value))) c.add_joined.ensures.behind

pub add_field-returns-in-Ok-clause-reads : goal.add_field-returns-in-Ok-clause-reads
add_field-returns-in-Ok-clause-reads t c =
    subst (λ (o : OutlineTree). ReadsField c.args.f.now.0 o c.args.at c.args.next.now c.word_at.new.next c.args.words.now c.args.steps.now.items c.word_at.new.steps.items (list_named_symbols c.args.fields.now.items) (list_named_symbols c.push.new.self.items)) (sym (ap (λ k. field_outline (take c.args.limit (declared_in c.args.t.now).layouts) (field_tree k)) c.in-Bits.is))
    (reads-word (IsSound (BitsOutline c.in-Bits.n) × (c.args.at + c.in-Bits.n ≤ 32 * length c.args.words.now)) ((1 ≤ c.in-Bits.n) × (c.in-Bits.n ≤ 32) × (c.args.at + c.in-Bits.n ≤ 32 * length c.args.words.now)) c.args.next.now c.word_at.new.next c.args.words.now c.args.steps.now.items c.word_at.new.steps.items c.in_ok-word-in-Bits.word (λ xs. number (slice c.args.at c.in-Bits.n (packed xs))) c.args.f.now.0 (list_named_symbols c.args.fields.now.items) (list_named_symbols c.push.new.self.items)
    (λ xs. named_value_and c.args.f.now.0 (value_at (BitsOutline c.in-Bits.n) (drop c.args.at (packed xs))) no_named_values)
    c.in_ok-word-in-Bits.ensures.makes (λ q. (q.0.0, q.0.1, q.1)) (ap list_named_symbols c.in-Ok.ensures.items ∙ symbols-append c.args.fields.now.items _)
    (λ xs q. ap (λ k. named_value_and c.args.f.now.0 (Word (number (take k (drop c.args.at (packed xs))))) no_named_values) (let s : min c.in-Bits.n 32 ≡ c.in-Bits.n = omega (arith, q.0.1) in s)))

pub add_field-returns-in-Ok-push-clause-reads : goal.add_field-returns-in-Ok-push-clause-reads
add_field-returns-in-Ok-push-clause-reads t c =
    let pairs = layout_pairs c.args.t.now.layouts.items in
    subst (λ (o : OutlineTree). ReadsField c.args.f.now.0 o c.args.at c.args.next.now c.add_fields.new.next c.args.words.now c.args.steps.now.items c.add_fields.new.steps.items (list_named_symbols c.args.fields.now.items) (list_named_symbols c.push-in-Inner.new.self.items)) (sym (ap (λ k. field_outline (take c.args.limit (declared_in c.args.t.now).layouts) (field_tree k)) c.in-Inner.is))
    (reads-record (IsSound (outline (take c.args.limit (declared_in c.args.t.now).layouts) (layout_tree c.in-Inner.l)) × (c.args.at + size (outline (take c.args.limit (declared_in c.args.t.now).layouts) (layout_tree c.in-Inner.l)) ≤ 32 * length c.args.words.now)) (IsSound (outline (take c.args.limit (declared_in c.args.t.now).layouts) (layout_tree c.in-Inner.l)) × (c.args.at + size (outline (take c.args.limit (declared_in c.args.t.now).layouts) (layout_tree c.in-Inner.l)) ≤ 32 * length c.args.words.now)) c.args.next.now c.add_fields.new.next c.args.words.now c.args.steps.now.items c.add_fields.new.steps.items c.args.f.now.0 (list_named_symbols c.add_fields.new.fields.items) (list_named_symbols c.args.fields.now.items) (list_named_symbols c.push-in-Inner.new.self.items)
    (form_of (outline (take c.args.limit (declared_in c.args.t.now).layouts) (layout_tree c.in-Inner.l))) (record_forms (outline (take c.args.limit (declared_in c.args.t.now).layouts) (layout_tree c.in-Inner.l))) (λ xs. fields_of (value_at (outline (take c.args.limit (declared_in c.args.t.now).layouts) (layout_tree c.in-Inner.l)) (drop c.args.at (packed xs)))) (λ xs. named_value_and c.args.f.now.0 (value_at (outline (take c.args.limit (declared_in c.args.t.now).layouts) (layout_tree c.in-Inner.l)) (drop c.args.at (packed xs))) no_named_values)
    (subst (λ (b : NamedSymbols). ReadsRecord (outline (take c.args.limit (declared_in c.args.t.now).layouts) (layout_tree c.in-Inner.l)) c.args.at c.args.next.now c.add_fields.new.next c.args.words.now c.args.steps.now.items c.add_fields.new.steps.items b (list_named_symbols c.add_fields.new.fields.items)) (ap list_named_symbols c.new-inner.ensures.items) c.in-Ok-add_fields.ensures.reads)
    (λ q. q)
    (ap list_named_symbols c.in-Ok-push.ensures.items ∙ symbols-append c.args.fields.now.items _ ∙ ap (λ s. (list_named_symbols c.args.fields.now.items) ++_symbols named_symbol_and c.args.f.now.0 s no_named_symbols) (record_view c.add_fields.new.fields))
    (layout-form pairs c.args.limit (layout_tree c.in-Inner.l))
    (λ xs. ap (λ v. named_value_and c.args.f.now.0 v no_named_values) (layout-record pairs c.args.limit (layout_tree c.in-Inner.l) (drop c.args.at (packed xs)))))

pub add_field-returns-in-Ok-push-2-clause-reads : goal.add_field-returns-in-Ok-push-2-clause-reads
add_field-returns-in-Ok-push-2-clause-reads t c =
    subst (λ (o : OutlineTree). ReadsField c.args.f.now.0 o c.args.at c.args.next.now c.add_alternatives.new.next c.args.words.now c.args.steps.now.items c.add_alternatives.new.steps.items (list_named_symbols c.args.fields.now.items) (list_named_symbols c.push-in-Overlay.new.self.items)) (sym (ap (field_outline (take c.args.limit (declared_in c.args.t.now).layouts)) (overlay_is c.args.f.now.1 c.in-Overlay.fs c.in-Overlay.is) ∙ ap (λ k. OverlayOutline (field_outlines (take c.args.limit (declared_in c.args.t.now).layouts) (list_fields k))) (sym c.deref.ensures.value)))
    (reads-record (IsSound (OverlayOutline (field_outlines (take c.args.limit (declared_in c.args.t.now).layouts) (list_fields c.deref.result.now))) × (c.args.at + longest (field_outlines (take c.args.limit (declared_in c.args.t.now).layouts) (list_fields c.deref.result.now)) ≤ 32 * length c.args.words.now)) (AlternativesFit (take c.args.limit (declared_in c.args.t.now).layouts) c.deref.result.now c.args.at c.args.words.now) c.args.next.now c.add_alternatives.new.next c.args.words.now c.args.steps.now.items c.add_alternatives.new.steps.items c.args.f.now.0 (list_named_symbols c.add_alternatives.new.fields.items) (list_named_symbols c.args.fields.now.items) (list_named_symbols c.push-in-Overlay.new.self.items)
    (form_of (OverlayOutline (field_outlines (take c.args.limit (declared_in c.args.t.now).layouts) (list_fields c.deref.result.now)))) (forms_of (field_outlines (take c.args.limit (declared_in c.args.t.now).layouts) (list_fields c.deref.result.now))) (λ xs. alternatives_at (field_outlines (take c.args.limit (declared_in c.args.t.now).layouts) (list_fields c.deref.result.now)) (drop c.args.at (packed xs))) (λ xs. named_value_and c.args.f.now.0 (value_at (OverlayOutline (field_outlines (take c.args.limit (declared_in c.args.t.now).layouts) (list_fields c.deref.result.now))) (drop c.args.at (packed xs))) no_named_values)
    (subst (λ (b : NamedSymbols). Reads (AlternativesFit (take c.args.limit (declared_in c.args.t.now).layouts) c.deref.result.now c.args.at c.args.words.now) c.args.next.now c.add_alternatives.new.next c.args.words.now c.args.steps.now.items c.add_alternatives.new.steps.items b (list_named_symbols c.add_alternatives.new.fields.items) (forms_of (field_outlines (take c.args.limit (declared_in c.args.t.now).layouts) (list_fields c.deref.result.now))) (λ xs. alternatives_at (field_outlines (take c.args.limit (declared_in c.args.t.now).layouts) (list_fields c.deref.result.now)) (drop c.args.at (packed xs)))) (ap list_named_symbols c.new-inner-in-Overlay.ensures.items) c.in-Ok-add_alternatives.ensures.reads)
    (λ q. (q.0.0, q.1))
    (ap list_named_symbols c.in-Ok-push-2.ensures.items ∙ symbols-append c.args.fields.now.items _ ∙ ap (λ s. (list_named_symbols c.args.fields.now.items) ++_symbols named_symbol_and c.args.f.now.0 s no_named_symbols) (record_view c.add_alternatives.new.fields))
    refl
    (λ xs. refl))

pub add_field-returns-in-Ok-push-2-clause-behind : goal.add_field-returns-in-Ok-push-2-clause-behind
add_field-returns-in-Ok-push-2-clause-behind t c =
    c.in-Ok-add_alternatives.ensures.behind ∙ sym (ap (λ o. min (c.args.at + size o) MAX) (ap (field_outline (take c.args.limit (declared_in c.args.t.now).layouts)) (overlay_is c.args.f.now.1 c.in-Overlay.fs c.in-Overlay.is) ∙ ap (λ k. OverlayOutline (field_outlines (take c.args.limit (declared_in c.args.t.now).layouts) (list_fields k))) (sym c.deref.ensures.value)))

pub add_joined-loop-l-init : goal.add_joined-loop-l-init
add_joined-loop-l-init t c =
    record {
      behind = omega (arith, c.ranges.first.fits);
      later = omega arith;
      reads = reads-none (JoinedFit (take c.args.limit (declared_in c.args.t.now).layouts) c.args.ls.now c.args.first c.args.words.now) c.args.next.now c.args.words.now c.args.steps.now.items (list_named_symbols c.args.fields.now.items) (λ xs. no_named_values) (λ xs. refl);
      well = fields-none c.args.next.now c.args.words.now c.args.steps.now.items (list_named_symbols c.args.fields.now.items);
      bounds = reads-few-none c.args.words.now c.args.steps.now.items (list_named_symbols c.args.fields.now.items) _;
    }

pub add_joined-loop-l-preserved : goal.add_joined-loop-l-preserved
add_joined-loop-l-preserved t c =
    let few : 32 * length c.args.words.now ≤ MAX = omega (arith, c.requires) in
    record {
      behind = omega (arith, c.loop-l.invariant.behind, total_more (take c.args.limit (declared_in c.args.t.now).layouts) c.args.ls.now c.loop-l.l-index c.l-item.result c.loop-l-test.true c.l-item.is, c.in_ok-at.ensures.behind);
      later = omega (arith, c.loop-l.invariant.later, c.in_ok-at.ensures.later);
      reads = joined-turn (take c.args.limit (declared_in c.args.t.now).layouts) c.args.ls.now c.loop-l.l-index c.l-item.result c.args.first c.loop-l.at MAX c.args.words.now c.args.next.now c.loop-l.next c.add_fields.new.next c.args.steps.now.items c.loop-l.steps.items c.add_fields.new.steps.items (list_named_symbols c.args.fields.now.items) (list_named_symbols c.loop-l.fields.items) (list_named_symbols c.add_fields.new.fields.items)
          c.loop-l-test.true c.l-item.is few c.loop-l.invariant.behind c.loop-l.invariant.reads c.in_ok-at.ensures.reads;
      well = adds-turn c.args.next.now c.loop-l.next c.add_fields.new.next c.args.words.now (named_operands (list_named_symbols c.args.fields.now.items)) (named_operands (list_named_symbols c.loop-l.fields.items)) (named_operands (list_named_symbols c.add_fields.new.fields.items)) c.args.steps.now.items c.loop-l.steps.items c.add_fields.new.steps.items
          c.loop-l.invariant.well c.in_ok-at.ensures.well;
      bounds = reads-few-turn c.args.words.now c.args.steps.now.items c.loop-l.steps.items c.add_fields.new.steps.items (list_named_symbols c.args.fields.now.items) (list_named_symbols c.loop-l.fields.items) (list_named_symbols c.add_fields.new.fields.items)
          (length (joined_fields 0 (outlines (take c.args.limit (declared_in c.args.t.now).layouts) (list_layouts (take c.loop-l.l-index c.args.ls.now))))) (length (bit_fields 0 (outline (take c.args.limit (declared_in c.args.t.now).layouts) (layout_tree c.l-item.result)))) (length (joined_fields 0 (outlines (take c.args.limit (declared_in c.args.t.now).layouts) (list_layouts (take (c.loop-l.l-index + 1) c.args.ls.now)))))
          c.loop-l.invariant.bounds c.in_ok-at.ensures.bounds (joined-count (take c.args.limit (declared_in c.args.t.now).layouts) c.args.ls.now c.loop-l.l-index c.l-item.result c.loop-l-test.true c.l-item.is);
    }

pub add_joined-returns-clause-reads : goal.add_joined-returns-clause-reads
add_joined-returns-clause-reads t c =
    subst (λ (l : List LayoutText). Reads (JoinedFit (take c.args.limit (declared_in c.args.t.now).layouts) c.args.ls.now c.args.first c.args.words.now) c.args.next.now c.loop-l.next c.args.words.now c.args.steps.now.items c.loop-l.steps.items (list_named_symbols c.args.fields.now.items) (list_named_symbols c.loop-l.fields.items) (joined_forms (outlines (take c.args.limit (declared_in c.args.t.now).layouts) (list_layouts l))) (λ xs. joined_at (outlines (take c.args.limit (declared_in c.args.t.now).layouts) (list_layouts l)) (drop c.args.first (packed xs))))
    (take_all c.loop-l.l-index c.args.ls.now (omega arith)) c.loop-l.invariant.reads

pub add_parts-loop-f-init : goal.add_parts-loop-f-init
add_parts-loop-f-init t c =
    record {
      behind = omega (arith, c.ranges.first.fits);
      later = omega arith;
      reads = reads-none (PartsFit (take c.args.limit (declared_in c.args.t.now).layouts) c.args.fs.now c.args.first c.args.words.now) c.args.next.now c.args.words.now c.args.steps.now.items (list_named_symbols c.args.fields.now.items) (λ xs. no_named_values) (λ xs. refl);
      well = fields-none c.args.next.now c.args.words.now c.args.steps.now.items (list_named_symbols c.args.fields.now.items);
      bounds = reads-few-none c.args.words.now c.args.steps.now.items (list_named_symbols c.args.fields.now.items) _;
    }

pub add_parts-loop-f-preserved : goal.add_parts-loop-f-preserved
add_parts-loop-f-preserved t c =
    let few : 32 * length c.args.words.now ≤ MAX = omega (arith, c.requires) in
    record {
      behind = omega (arith, c.loop-f.invariant.behind, total_named_more (take c.args.limit (declared_in c.args.t.now).layouts) c.args.fs.now c.loop-f.f-index c.f-item.result c.loop-f-test.true c.f-item.is, c.in_ok-at.ensures.behind);
      later = omega (arith, c.loop-f.invariant.later, c.in_ok-at.ensures.later);
      reads = parts-turn (take c.args.limit (declared_in c.args.t.now).layouts) c.args.fs.now c.loop-f.f-index c.f-item.result c.args.first c.loop-f.at MAX c.args.words.now c.args.next.now c.loop-f.next c.add_field.new.next c.args.steps.now.items c.loop-f.steps.items c.add_field.new.steps.items (list_named_symbols c.args.fields.now.items) (list_named_symbols c.loop-f.fields.items) (list_named_symbols c.add_field.new.fields.items)
          c.loop-f-test.true c.f-item.is few c.loop-f.invariant.behind c.loop-f.invariant.reads c.in_ok-at.ensures.reads;
      well = adds-turn c.args.next.now c.loop-f.next c.add_field.new.next c.args.words.now (named_operands (list_named_symbols c.args.fields.now.items)) (named_operands (list_named_symbols c.loop-f.fields.items)) (named_operands (list_named_symbols c.add_field.new.fields.items)) c.args.steps.now.items c.loop-f.steps.items c.add_field.new.steps.items
          c.loop-f.invariant.well c.in_ok-at.ensures.well;
      bounds = reads-few-turn c.args.words.now c.args.steps.now.items c.loop-f.steps.items c.add_field.new.steps.items (list_named_symbols c.args.fields.now.items) (list_named_symbols c.loop-f.fields.items) (list_named_symbols c.add_field.new.fields.items)
          (length (part_fields 0 (field_outlines (take c.args.limit (declared_in c.args.t.now).layouts) (list_fields (take c.loop-f.f-index c.args.fs.now))))) (length (bit_fields 0 (field_outline (take c.args.limit (declared_in c.args.t.now).layouts) (field_tree c.f-item.result.1)))) (length (part_fields 0 (field_outlines (take c.args.limit (declared_in c.args.t.now).layouts) (list_fields (take (c.loop-f.f-index + 1) c.args.fs.now)))))
          c.loop-f.invariant.bounds c.in_ok-at.ensures.bounds (parts-count (take c.args.limit (declared_in c.args.t.now).layouts) c.args.fs.now c.loop-f.f-index c.f-item.result c.loop-f-test.true c.f-item.is);
    }

pub add_parts-returns-clause-reads : goal.add_parts-returns-clause-reads
add_parts-returns-clause-reads t c =
    subst (λ (l : List FieldItem). Reads (PartsFit (take c.args.limit (declared_in c.args.t.now).layouts) c.args.fs.now c.args.first c.args.words.now) c.args.next.now c.loop-f.next c.args.words.now c.args.steps.now.items c.loop-f.steps.items (list_named_symbols c.args.fields.now.items) (list_named_symbols c.loop-f.fields.items) (forms_of (field_outlines (take c.args.limit (declared_in c.args.t.now).layouts) (list_fields l))) (λ xs. parts_at (field_outlines (take c.args.limit (declared_in c.args.t.now).layouts) (list_fields l)) (drop c.args.first (packed xs))))
    (take_all c.loop-f.f-index c.args.fs.now (omega arith)) c.loop-f.invariant.reads

pub add_alternatives-loop-f-init : goal.add_alternatives-loop-f-init
add_alternatives-loop-f-init t c =
    record {
      behind = omega (arith, c.ranges.at.fits);
      later = omega arith;
      reads = reads-none (AlternativesFit (take c.args.limit (declared_in c.args.t.now).layouts) c.args.fs.now c.args.at c.args.words.now) c.args.next.now c.args.words.now c.args.steps.now.items (list_named_symbols c.args.fields.now.items) (λ xs. no_named_values) (λ xs. refl);
      well = fields-none c.args.next.now c.args.words.now c.args.steps.now.items (list_named_symbols c.args.fields.now.items);
      bounds = reads-few-none c.args.words.now c.args.steps.now.items (list_named_symbols c.args.fields.now.items) _;
    }

pub add_alternatives-loop-f-preserved : goal.add_alternatives-loop-f-preserved
add_alternatives-loop-f-preserved t c =
    record {
      behind = omega (arith, c.loop-f.invariant.behind, longest_more (take c.args.limit (declared_in c.args.t.now).layouts) c.args.fs.now c.loop-f.f-index c.f-item.result c.loop-f-test.true c.f-item.is, c.in_ok-behind.ensures.behind, c.max-last.ensures);
      later = omega (arith, c.loop-f.invariant.later, c.in_ok-behind.ensures.later);
      reads = alternatives-turn (take c.args.limit (declared_in c.args.t.now).layouts) c.args.fs.now c.loop-f.f-index c.f-item.result c.args.at c.args.words.now c.args.next.now c.loop-f.next c.add_field.new.next c.args.steps.now.items c.loop-f.steps.items c.add_field.new.steps.items (list_named_symbols c.args.fields.now.items) (list_named_symbols c.loop-f.fields.items) (list_named_symbols c.add_field.new.fields.items)
          c.loop-f-test.true c.f-item.is c.loop-f.invariant.reads c.in_ok-behind.ensures.reads;
      well = adds-turn c.args.next.now c.loop-f.next c.add_field.new.next c.args.words.now (named_operands (list_named_symbols c.args.fields.now.items)) (named_operands (list_named_symbols c.loop-f.fields.items)) (named_operands (list_named_symbols c.add_field.new.fields.items)) c.args.steps.now.items c.loop-f.steps.items c.add_field.new.steps.items
          c.loop-f.invariant.well c.in_ok-behind.ensures.well;
      bounds = reads-few-turn c.args.words.now c.args.steps.now.items c.loop-f.steps.items c.add_field.new.steps.items (list_named_symbols c.args.fields.now.items) (list_named_symbols c.loop-f.fields.items) (list_named_symbols c.add_field.new.fields.items)
          (length (alternative_fields 0 (field_outlines (take c.args.limit (declared_in c.args.t.now).layouts) (list_fields (take c.loop-f.f-index c.args.fs.now))))) (length (bit_fields 0 (field_outline (take c.args.limit (declared_in c.args.t.now).layouts) (field_tree c.f-item.result.1)))) (length (alternative_fields 0 (field_outlines (take c.args.limit (declared_in c.args.t.now).layouts) (list_fields (take (c.loop-f.f-index + 1) c.args.fs.now)))))
          c.loop-f.invariant.bounds c.in_ok-behind.ensures.bounds (alternatives-count (take c.args.limit (declared_in c.args.t.now).layouts) c.args.fs.now c.loop-f.f-index c.f-item.result c.loop-f-test.true c.f-item.is);
    }

pub add_alternatives-returns-clause-reads : goal.add_alternatives-returns-clause-reads
add_alternatives-returns-clause-reads t c =
    subst (λ (l : List FieldItem). Reads (AlternativesFit (take c.args.limit (declared_in c.args.t.now).layouts) c.args.fs.now c.args.at c.args.words.now) c.args.next.now c.loop-f.next c.args.words.now c.args.steps.now.items c.loop-f.steps.items (list_named_symbols c.args.fields.now.items) (list_named_symbols c.loop-f.fields.items) (forms_of (field_outlines (take c.args.limit (declared_in c.args.t.now).layouts) (list_fields l))) (λ xs. alternatives_at (field_outlines (take c.args.limit (declared_in c.args.t.now).layouts) (list_fields l)) (drop c.args.at (packed xs))))
    (take_all c.loop-f.f-index c.args.fs.now (omega arith)) c.loop-f.invariant.reads

pub add_fields-returns-in-None-clause-well : goal.add_fields-returns-in-None-clause-well
add_fields-returns-in-None-clause-well t c = fields-none c.args.next.now c.args.words.now c.args.steps.now.items (list_named_symbols c.args.fields.now.items)

pub add_fields-returns-in-Gap-clause-well : goal.add_fields-returns-in-Gap-clause-well
add_fields-returns-in-Gap-clause-well t c = fields-none c.args.next.now c.args.words.now c.args.steps.now.items (list_named_symbols c.args.fields.now.items)

pub add_field-returns-in-Ok-clause-well : goal.add_field-returns-in-Ok-clause-well
add_field-returns-in-Ok-clause-well t c =
    adds-field c.args.next.now c.word_at.new.next c.args.words.now c.args.f.now.0 (symbols.Word c.in_ok-word-in-Bits.word) c.args.steps.now.items c.word_at.new.steps.items (list_named_symbols c.args.fields.now.items) (list_named_symbols c.push.new.self.items)
    c.in_ok-word-in-Bits.ensures.well (ap list_named_symbols c.in-Ok.ensures.items ∙ symbols-append c.args.fields.now.items _)

pub add_field-returns-in-Ok-push-clause-well : goal.add_field-returns-in-Ok-push-clause-well
add_field-returns-in-Ok-push-clause-well t c =
    adds-inner c.args.next.now c.add_fields.new.next c.args.words.now c.args.f.now.0 c.args.steps.now.items c.add_fields.new.steps.items (list_named_symbols c.new-inner.result.items) (list_named_symbols c.add_fields.new.fields.items) (list_named_symbols c.args.fields.now.items) (list_named_symbols c.push-in-Inner.new.self.items)
    c.in-Ok-add_fields.ensures.well (ap list_named_symbols c.new-inner.ensures.items)
    (ap list_named_symbols c.in-Ok-push.ensures.items ∙ symbols-append c.args.fields.now.items _ ∙ ap (λ s. (list_named_symbols c.args.fields.now.items) ++_symbols named_symbol_and c.args.f.now.0 s no_named_symbols) (record_view c.add_fields.new.fields))

pub add_field-returns-in-Ok-push-2-clause-well : goal.add_field-returns-in-Ok-push-2-clause-well
add_field-returns-in-Ok-push-2-clause-well t c =
    adds-inner c.args.next.now c.add_alternatives.new.next c.args.words.now c.args.f.now.0 c.args.steps.now.items c.add_alternatives.new.steps.items (list_named_symbols c.new-inner-in-Overlay.result.items) (list_named_symbols c.add_alternatives.new.fields.items) (list_named_symbols c.args.fields.now.items) (list_named_symbols c.push-in-Overlay.new.self.items)
    c.in-Ok-add_alternatives.ensures.well (ap list_named_symbols c.new-inner-in-Overlay.ensures.items)
    (ap list_named_symbols c.in-Ok-push-2.ensures.items ∙ symbols-append c.args.fields.now.items _ ∙ ap (λ s. (list_named_symbols c.args.fields.now.items) ++_symbols named_symbol_and c.args.f.now.0 s no_named_symbols) (record_view c.add_alternatives.new.fields))

pub add_joined-returns-clause-bounds : goal.add_joined-returns-clause-bounds
add_joined-returns-clause-bounds t c =
    subst (λ (l : List LayoutText). ReadsFew c.args.words.now c.args.steps.now.items c.loop-l.steps.items (list_named_symbols c.args.fields.now.items) (list_named_symbols c.loop-l.fields.items) (length (joined_fields 0 (outlines (take c.args.limit (declared_in c.args.t.now).layouts) (list_layouts l)))))
    (take_all c.loop-l.l-index c.args.ls.now (omega arith)) c.loop-l.invariant.bounds

pub add_parts-returns-clause-bounds : goal.add_parts-returns-clause-bounds
add_parts-returns-clause-bounds t c =
    subst (λ (l : List FieldItem). ReadsFew c.args.words.now c.args.steps.now.items c.loop-f.steps.items (list_named_symbols c.args.fields.now.items) (list_named_symbols c.loop-f.fields.items) (length (part_fields 0 (field_outlines (take c.args.limit (declared_in c.args.t.now).layouts) (list_fields l)))))
    (take_all c.loop-f.f-index c.args.fs.now (omega arith)) c.loop-f.invariant.bounds

pub add_alternatives-returns-clause-bounds : goal.add_alternatives-returns-clause-bounds
add_alternatives-returns-clause-bounds t c =
    subst (λ (l : List FieldItem). ReadsFew c.args.words.now c.args.steps.now.items c.loop-f.steps.items (list_named_symbols c.args.fields.now.items) (list_named_symbols c.loop-f.fields.items) (length (alternative_fields 0 (field_outlines (take c.args.limit (declared_in c.args.t.now).layouts) (list_fields l)))))
    (take_all c.loop-f.f-index c.args.fs.now (omega arith)) c.loop-f.invariant.bounds

pub add_fields-returns-in-None-clause-bounds : goal.add_fields-returns-in-None-clause-bounds
add_fields-returns-in-None-clause-bounds t c = reads-few-none c.args.words.now c.args.steps.now.items (list_named_symbols c.args.fields.now.items) _

pub add_fields-returns-in-Gap-clause-bounds : goal.add_fields-returns-in-Gap-clause-bounds
add_fields-returns-in-Gap-clause-bounds t c = reads-few-none c.args.words.now c.args.steps.now.items (list_named_symbols c.args.fields.now.items) _

pub add_fields-returns-in-Parts-clause-bounds : goal.add_fields-returns-in-Parts-clause-bounds
add_fields-returns-in-Parts-clause-bounds t c =
    IfOk-weaker c.add_parts.result _ _
    (λ i m. subst (λ (o : OutlineTree). ReadsFew c.args.words.now c.args.steps.now.items c.add_parts.new.steps.items (list_named_symbols c.args.fields.now.items) (list_named_symbols c.add_parts.new.fields.items) (length (bit_fields 0 o)))
    (sym (ap (outline (take c.args.limit (declared_in c.args.t.now).layouts)) (parts_is c.args.l.now c.in-Parts.fs c.in-Parts.is) ∙ ap (λ k. PartsOutline (field_outlines (take c.args.limit (declared_in c.args.t.now).layouts) (list_fields k))) (sym c.deref.ensures.value))) m)
    c.add_parts.ensures.bounds

pub add_fields-returns-in-Joined-clause-bounds : goal.add_fields-returns-in-Joined-clause-bounds
add_fields-returns-in-Joined-clause-bounds t c =
    IfOk-weaker c.add_joined.result _ _
    (λ i m. subst (λ (o : OutlineTree). ReadsFew c.args.words.now c.args.steps.now.items c.add_joined.new.steps.items (list_named_symbols c.args.fields.now.items) (list_named_symbols c.add_joined.new.fields.items) (length (bit_fields 0 o)))
    (sym (ap (outline (take c.args.limit (declared_in c.args.t.now).layouts)) (joined_is c.args.l.now c.in-Joined.ls c.in-Joined.is) ∙ ap (λ k. JoinedOutline (outlines (take c.args.limit (declared_in c.args.t.now).layouts) (list_layouts k))) (sym c.deref-in-Joined.ensures.value))) m)
    c.add_joined.ensures.bounds

pub add_field-returns-in-Ok-clause-bounds : goal.add_field-returns-in-Ok-clause-bounds
add_field-returns-in-Ok-clause-bounds t c =
    subst (λ (o : OutlineTree). ReadsFew c.args.words.now c.args.steps.now.items c.word_at.new.steps.items (list_named_symbols c.args.fields.now.items) (list_named_symbols c.push.new.self.items) (length (bit_fields 0 o)))
    (sym (ap (λ k. field_outline (take c.args.limit (declared_in c.args.t.now).layouts) (field_tree k)) c.in-Bits.is))
    (reads-few-word c.args.words.now c.args.f.now.0 c.in_ok-word-in-Bits.word c.args.steps.now.items c.word_at.new.steps.items (list_named_symbols c.args.fields.now.items) (list_named_symbols c.push.new.self.items)
    c.in_ok-word-in-Bits.ensures.bounds (ap list_named_symbols c.in-Ok.ensures.items ∙ symbols-append c.args.fields.now.items _))

pub add_field-returns-in-Ok-push-clause-bounds : goal.add_field-returns-in-Ok-push-clause-bounds
add_field-returns-in-Ok-push-clause-bounds t c =
    subst (λ (o : OutlineTree). ReadsFew c.args.words.now c.args.steps.now.items c.add_fields.new.steps.items (list_named_symbols c.args.fields.now.items) (list_named_symbols c.push-in-Inner.new.self.items) (length (bit_fields 0 o)))
    (sym (ap (λ k. field_outline (take c.args.limit (declared_in c.args.t.now).layouts) (field_tree k)) c.in-Inner.is))
    (reads-few-inner c.args.words.now c.args.f.now.0 c.args.steps.now.items c.add_fields.new.steps.items (list_named_symbols c.new-inner.result.items) (list_named_symbols c.add_fields.new.fields.items) (list_named_symbols c.args.fields.now.items) (list_named_symbols c.push-in-Inner.new.self.items)
    (length (bit_fields 0 (outline (take c.args.limit (declared_in c.args.t.now).layouts) (layout_tree c.in-Inner.l))))
    c.in-Ok-add_fields.ensures.bounds (ap list_named_symbols c.new-inner.ensures.items)
    (ap list_named_symbols c.in-Ok-push.ensures.items ∙ symbols-append c.args.fields.now.items _ ∙ ap (λ s. (list_named_symbols c.args.fields.now.items) ++_symbols named_symbol_and c.args.f.now.0 s no_named_symbols) (record_view c.add_fields.new.fields)))

pub add_field-returns-in-Ok-push-2-clause-bounds : goal.add_field-returns-in-Ok-push-2-clause-bounds
add_field-returns-in-Ok-push-2-clause-bounds t c =
    subst (λ (o : OutlineTree). ReadsFew c.args.words.now c.args.steps.now.items c.add_alternatives.new.steps.items (list_named_symbols c.args.fields.now.items) (list_named_symbols c.push-in-Overlay.new.self.items) (length (bit_fields 0 o)))
    (sym (ap (field_outline (take c.args.limit (declared_in c.args.t.now).layouts)) (overlay_is c.args.f.now.1 c.in-Overlay.fs c.in-Overlay.is) ∙ ap (λ k. OverlayOutline (field_outlines (take c.args.limit (declared_in c.args.t.now).layouts) (list_fields k))) (sym c.deref.ensures.value)))
    (reads-few-inner c.args.words.now c.args.f.now.0 c.args.steps.now.items c.add_alternatives.new.steps.items (list_named_symbols c.new-inner-in-Overlay.result.items) (list_named_symbols c.add_alternatives.new.fields.items) (list_named_symbols c.args.fields.now.items) (list_named_symbols c.push-in-Overlay.new.self.items)
    (length (alternative_fields 0 (field_outlines (take c.args.limit (declared_in c.args.t.now).layouts) (list_fields c.deref.result.now))))
    c.in-Ok-add_alternatives.ensures.bounds (ap list_named_symbols c.new-inner-in-Overlay.ensures.items)
    (ap list_named_symbols c.in-Ok-push-2.ensures.items ∙ symbols-append c.args.fields.now.items _ ∙ ap (λ s. (list_named_symbols c.args.fields.now.items) ++_symbols named_symbol_and c.args.f.now.0 s no_named_symbols) (record_view c.add_alternatives.new.fields)))
