use Rattle.std.proofs.Common.{◌≡◌, ◌∙◌, ◌+◌, ◌*◌, ◌≤◌, ap, sym, refl, subst, arith, take, length}
use Rattle.std.proofs.lemmas.List.{take_all, length-replicate, drop_all}
use Rattle.nv_ast.specs.Bits.{bits, packed, replaced}
use Rattle.nv_ast.specs.LayoutView.{layout_tree, field_tree, list_fields, list_layouts}
use Rattle.nv_ast.specs.Outline.{PartsOutline, JoinedOutline, OverlayOutline, outline, outlines, field_outline, field_outlines, size, outline_height}
use Rattle.nv_ast.proofs.Reading.{parts_is, joined_is, overlay_is}
use Rattle.nv_layout.proofs.BitLists.{length-packed}
use Rattle.nv_meaning_values.specs.Values.{field_named}
use Rattle.nv_meaning_values.specs.Packing.{bits_of, parts_bits, chosen_bits, joined_bits}
use Rattle.nv_meaning.specs.inner.Blanks.{IsBlankFrom}
use Rattle.nv_meaning_values.specs.inner.TableView.{declared_in}
use Rattle.nv_meaning_values.specs.inner.View.{view, list_named_values}
use Rattle.nv_meaning_values.proofs.Unpacking.{alias_rank, alias-low, alias-none, total_named_within, longest_within, highest_named_within, total_within, highest_within}
use Rattle.nv_meaning.proofs.Packed.{replaced-nothing, replaced-zeros}
use Rattle.nv_meaning.proofs.Writing.{parts_bits-more, joined_bits-more, chosen-turn, parts-within, joined-within, written-more, behind-more, blank-after}
use Rattle.nv_meaning.proofs.Bindings.{if-true, if-false}
use Rattle.nv_meaning.proofs.pack.+write.Goals as goal

pub write_layout-write_layout-requires : goal.write_layout-write_layout-requires
write_layout-write_layout-requires t c =
    let e = ap outline_height (ap (λ k. outline (take c.args.limit (declared_in c.args.t.now).layouts) (layout_tree k)) c.in-Named.is ∙ c.in-Some.ensures.outline) in
    let r = alias-none (layout_tree c.in-Some.named.now) c.in-Some.ensures.unnamed in
    let s : alias_rank (layout_tree c.args.l.now) ≡ 1 = ap (λ k. alias_rank (layout_tree k)) c.in-Named.is in
    (omega (arith, c.decreases), (subst (λ o. c.args.at + size o ≤ 32 * length c.args.words.now) (ap (λ k. outline (take c.args.limit (declared_in c.args.t.now).layouts) (layout_tree k)) c.in-Named.is ∙ c.in-Some.ensures.outline) c.requires.inside, (c.requires.few, c.requires.blank)))

pub write_layout-write_parts-requires : goal.write_layout-write_parts-requires
write_layout-write_parts-requires t c =
    let e = ap outline_height (ap (outline (take c.args.limit (declared_in c.args.t.now).layouts)) (parts_is c.args.l.now c.in-Parts.fs c.in-Parts.is) ∙ ap (λ k. PartsOutline (field_outlines (take c.args.limit (declared_in c.args.t.now).layouts) (list_fields k))) (sym c.deref.ensures.value)) in
    (omega (arith, c.decreases), (subst (λ o. c.args.at + size o ≤ 32 * length c.args.words.now) (ap (outline (take c.args.limit (declared_in c.args.t.now).layouts)) (parts_is c.args.l.now c.in-Parts.fs c.in-Parts.is) ∙ ap (λ k. PartsOutline (field_outlines (take c.args.limit (declared_in c.args.t.now).layouts) (list_fields k))) (sym c.deref.ensures.value)) c.requires.inside, (c.requires.few, c.requires.blank)))

pub write_layout-write_joined-requires : goal.write_layout-write_joined-requires
write_layout-write_joined-requires t c =
    let e = ap outline_height (ap (outline (take c.args.limit (declared_in c.args.t.now).layouts)) (joined_is c.args.l.now c.in-Joined.ls c.in-Joined.is) ∙ ap (λ k. JoinedOutline (outlines (take c.args.limit (declared_in c.args.t.now).layouts) (list_layouts k))) (sym c.deref-in-Joined.ensures.value)) in
    (omega (arith, c.decreases), (subst (λ o. c.args.at + size o ≤ 32 * length c.args.words.now) (ap (outline (take c.args.limit (declared_in c.args.t.now).layouts)) (joined_is c.args.l.now c.in-Joined.ls c.in-Joined.is) ∙ ap (λ k. JoinedOutline (outlines (take c.args.limit (declared_in c.args.t.now).layouts) (list_layouts k))) (sym c.deref-in-Joined.ensures.value)) c.requires.inside, (c.requires.few, c.requires.blank)))

pub write_layout-returns-in-Some-clause-words : goal.write_layout-returns-in-Some-clause-words
write_layout-returns-in-Some-clause-words t c =
    subst (λ o. packed c.write_layout.new.words ≡ replaced c.args.at (bits_of o (view c.args.v.now)) (packed c.args.words.now)) (sym (ap (λ k. outline (take c.args.limit (declared_in c.args.t.now).layouts) (layout_tree k)) c.in-Named.is ∙ c.in-Some.ensures.outline)) c.write_layout.ensures.words

pub write_layout-returns-in-Some-clause-behind : goal.write_layout-returns-in-Some-clause-behind
write_layout-returns-in-Some-clause-behind t c =
    subst (λ o. c.write_layout.result ≡ c.args.at + length (bits_of o (view c.args.v.now))) (sym (ap (λ k. outline (take c.args.limit (declared_in c.args.t.now).layouts) (layout_tree k)) c.in-Named.is ∙ c.in-Some.ensures.outline)) c.write_layout.ensures.behind

pub write_layout-returns-in-None-clause-words : goal.write_layout-returns-in-None-clause-words
write_layout-returns-in-None-clause-words t c =
    sym (ap (λ o. replaced c.args.at (bits_of o (view c.args.v.now)) (packed c.args.words.now)) (ap (λ k. outline (take c.args.limit (declared_in c.args.t.now).layouts) (layout_tree k)) c.in-Named.is ∙ c.in-None.ensures.outline) ∙ replaced-nothing c.args.at (packed c.args.words.now))

pub write_layout-returns-in-None-clause-behind : goal.write_layout-returns-in-None-clause-behind
write_layout-returns-in-None-clause-behind t c =
    let s = ap (λ o. length (bits_of o (view c.args.v.now))) (ap (λ k. outline (take c.args.limit (declared_in c.args.t.now).layouts) (layout_tree k)) c.in-Named.is ∙ c.in-None.ensures.outline) in
    omega arith

pub write_layout-returns-in-Gap-clause-words : goal.write_layout-returns-in-Gap-clause-words
write_layout-returns-in-Gap-clause-words t c =
    let s = ap size (ap (λ k. outline (take c.args.limit (declared_in c.args.t.now).layouts) (layout_tree k)) c.in-Gap.is) in
    let long = length-packed c.args.words.now in
    sym (ap (λ o. replaced c.args.at (bits_of o (view c.args.v.now)) (packed c.args.words.now)) (ap (λ k. outline (take c.args.limit (declared_in c.args.t.now).layouts) (layout_tree k)) c.in-Gap.is) ∙ replaced-zeros c.args.at c.in-Gap.n (packed c.args.words.now) (omega (arith, c.requires.inside)) c.requires.blank)

pub write_layout-returns-in-Gap-clause-behind : goal.write_layout-returns-in-Gap-clause-behind
write_layout-returns-in-Gap-clause-behind t c =
    let s = ap (λ o. length (bits_of o (view c.args.v.now))) (ap (λ k. outline (take c.args.limit (declared_in c.args.t.now).layouts) (layout_tree k)) c.in-Gap.is) ∙ length-replicate c.in-Gap.n 0 in
    omega arith

pub write_layout-returns-in-Parts-clause-words : goal.write_layout-returns-in-Parts-clause-words
write_layout-returns-in-Parts-clause-words t c =
    c.write_parts.ensures.words ∙ ap (λ vs. replaced c.args.at (parts_bits (field_outlines (take c.args.limit (declared_in c.args.t.now).layouts) (list_fields c.deref.result.now)) vs) (packed c.args.words.now)) c.fields_in.ensures ∙ sym (ap (λ o. replaced c.args.at (bits_of o (view c.args.v.now)) (packed c.args.words.now)) (ap (outline (take c.args.limit (declared_in c.args.t.now).layouts)) (parts_is c.args.l.now c.in-Parts.fs c.in-Parts.is) ∙ ap (λ k. PartsOutline (field_outlines (take c.args.limit (declared_in c.args.t.now).layouts) (list_fields k))) (sym c.deref.ensures.value)))

pub write_layout-returns-in-Parts-clause-behind : goal.write_layout-returns-in-Parts-clause-behind
write_layout-returns-in-Parts-clause-behind t c =
    c.write_parts.ensures.behind ∙ ap (λ vs. c.args.at + length (parts_bits (field_outlines (take c.args.limit (declared_in c.args.t.now).layouts) (list_fields c.deref.result.now)) vs)) c.fields_in.ensures ∙ sym (ap (λ o. c.args.at + length (bits_of o (view c.args.v.now))) (ap (outline (take c.args.limit (declared_in c.args.t.now).layouts)) (parts_is c.args.l.now c.in-Parts.fs c.in-Parts.is) ∙ ap (λ k. PartsOutline (field_outlines (take c.args.limit (declared_in c.args.t.now).layouts) (list_fields k))) (sym c.deref.ensures.value)))

pub write_layout-returns-in-Joined-clause-words : goal.write_layout-returns-in-Joined-clause-words
write_layout-returns-in-Joined-clause-words t c =
    subst (λ o. packed c.write_joined.new.words ≡ replaced c.args.at (bits_of o (view c.args.v.now)) (packed c.args.words.now)) (sym (ap (outline (take c.args.limit (declared_in c.args.t.now).layouts)) (joined_is c.args.l.now c.in-Joined.ls c.in-Joined.is) ∙ ap (λ k. JoinedOutline (outlines (take c.args.limit (declared_in c.args.t.now).layouts) (list_layouts k))) (sym c.deref-in-Joined.ensures.value))) c.write_joined.ensures.words

pub write_layout-returns-in-Joined-clause-behind : goal.write_layout-returns-in-Joined-clause-behind
write_layout-returns-in-Joined-clause-behind t c =
    subst (λ o. c.write_joined.result ≡ c.args.at + length (bits_of o (view c.args.v.now))) (sym (ap (outline (take c.args.limit (declared_in c.args.t.now).layouts)) (joined_is c.args.l.now c.in-Joined.ls c.in-Joined.is) ∙ ap (λ k. JoinedOutline (outlines (take c.args.limit (declared_in c.args.t.now).layouts) (list_layouts k))) (sym c.deref-in-Joined.ensures.value))) c.write_joined.ensures.behind

pub write_joined-write_layout-at-requires : goal.write_joined-write_layout-at-requires
write_joined-write_layout-at-requires t c =
    let xs = joined_bits (outlines (take c.args.limit (declared_in c.args.t.now).layouts) (list_layouts (take c.loop-l.l-index c.args.ls.now))) (view c.args.v.now) in
    let short = joined-within (outlines (take c.args.limit (declared_in c.args.t.now).layouts) (list_layouts (take c.loop-l.l-index c.args.ls.now))) (view c.args.v.now) in
    let room = total_within (take c.args.limit (declared_in c.args.t.now).layouts) c.args.ls.now c.loop-l.l-index c.l-item.result c.loop-l-test.true c.l-item.is in
    let long = length-packed c.args.words.now in
    let fits : c.args.first + length xs ≤ length (packed c.args.words.now) = omega (arith, c.requires.inside) in
    (omega (arith, c.decreases, highest_within (take c.args.limit (declared_in c.args.t.now).layouts) c.args.ls.now c.loop-l.l-index c.l-item.result c.loop-l-test.true c.l-item.is, alias-low (layout_tree c.l-item.result)), (omega (arith, c.loop-l.invariant.behind, c.requires.inside), (omega (arith, c.requires.few), blank-after c.args.first c.loop-l.at (packed c.args.words.now) (packed c.loop-l.words) xs fits c.loop-l.invariant.behind c.loop-l.invariant.words c.requires.blank)))

pub write_joined-loop-l-init : goal.write_joined-loop-l-init
write_joined-loop-l-init t c =
    record {
      behind = omega arith;
      words = sym (replaced-nothing c.args.first (packed c.args.words.now));
    }

pub write_joined-loop-l-preserved : goal.write_joined-loop-l-preserved
write_joined-loop-l-preserved t c =
    let xs = joined_bits (outlines (take c.args.limit (declared_in c.args.t.now).layouts) (list_layouts (take c.loop-l.l-index c.args.ls.now))) (view c.args.v.now) in
    let short = joined-within (outlines (take c.args.limit (declared_in c.args.t.now).layouts) (list_layouts (take c.loop-l.l-index c.args.ls.now))) (view c.args.v.now) in
    let room = total_within (take c.args.limit (declared_in c.args.t.now).layouts) c.args.ls.now c.loop-l.l-index c.l-item.result c.loop-l-test.true c.l-item.is in
    let long = length-packed c.args.words.now in
    let fits : c.args.first + length xs ≤ length (packed c.args.words.now) = omega (arith, c.requires.inside) in
    let more = joined_bits-more (take c.args.limit (declared_in c.args.t.now).layouts) c.args.ls.now c.loop-l.l-index c.l-item.result (view c.args.v.now) c.loop-l-test.true c.l-item.is in
    record {
      behind = behind-more c.args.first c.loop-l.at c.write_layout-at.result xs _ _ c.loop-l.invariant.behind c.write_layout-at.ensures.behind more;
      words = written-more c.args.first c.loop-l.at (packed c.args.words.now) (packed c.loop-l.words) (packed c.write_layout-at.new.words) xs _ _ fits c.loop-l.invariant.behind c.loop-l.invariant.words c.write_layout-at.ensures.words more;
    }

pub write_parts-write_part-at-requires : goal.write_parts-write_part-at-requires
write_parts-write_part-at-requires t c =
    let xs = parts_bits (field_outlines (take c.args.limit (declared_in c.args.t.now).layouts) (list_fields (take c.loop-f.f-index c.args.fs.now))) (list_named_values c.args.fields.now) in
    let short = parts-within (field_outlines (take c.args.limit (declared_in c.args.t.now).layouts) (list_fields (take c.loop-f.f-index c.args.fs.now))) (list_named_values c.args.fields.now) in
    let room = total_named_within (take c.args.limit (declared_in c.args.t.now).layouts) c.args.fs.now c.loop-f.f-index c.f-item.result c.loop-f-test.true c.f-item.is in
    let long = length-packed c.args.words.now in
    let fits : c.args.first + length xs ≤ length (packed c.args.words.now) = omega (arith, c.requires.inside) in
    (omega (arith, c.decreases, highest_named_within (take c.args.limit (declared_in c.args.t.now).layouts) c.args.fs.now c.loop-f.f-index c.f-item.result c.loop-f-test.true c.f-item.is), (omega (arith, c.loop-f.invariant.behind, c.requires.inside), (omega (arith, c.requires.few), blank-after c.args.first c.loop-f.at (packed c.args.words.now) (packed c.loop-f.words) xs fits c.loop-f.invariant.behind c.loop-f.invariant.words c.requires.blank)))

pub write_parts-loop-f-init : goal.write_parts-loop-f-init
write_parts-loop-f-init t c =
    record {
      behind = omega arith;
      words = sym (replaced-nothing c.args.first (packed c.args.words.now));
    }

pub write_parts-loop-f-preserved : goal.write_parts-loop-f-preserved
write_parts-loop-f-preserved t c =
    let xs = parts_bits (field_outlines (take c.args.limit (declared_in c.args.t.now).layouts) (list_fields (take c.loop-f.f-index c.args.fs.now))) (list_named_values c.args.fields.now) in
    let short = parts-within (field_outlines (take c.args.limit (declared_in c.args.t.now).layouts) (list_fields (take c.loop-f.f-index c.args.fs.now))) (list_named_values c.args.fields.now) in
    let room = total_named_within (take c.args.limit (declared_in c.args.t.now).layouts) c.args.fs.now c.loop-f.f-index c.f-item.result c.loop-f-test.true c.f-item.is in
    let long = length-packed c.args.words.now in
    let fits : c.args.first + length xs ≤ length (packed c.args.words.now) = omega (arith, c.requires.inside) in
    let more = parts_bits-more (take c.args.limit (declared_in c.args.t.now).layouts) c.args.fs.now c.loop-f.f-index c.f-item.result (list_named_values c.args.fields.now) c.loop-f-test.true c.f-item.is in
    record {
      behind = behind-more c.args.first c.loop-f.at c.write_part-at.result xs _ _ c.loop-f.invariant.behind c.write_part-at.ensures.behind more;
      words = written-more c.args.first c.loop-f.at (packed c.args.words.now) (packed c.loop-f.words) (packed c.write_part-at.new.words) xs _ _ fits c.loop-f.invariant.behind c.loop-f.invariant.words c.write_part-at.ensures.words more;
    }

pub write_joined-returns-clause-words : goal.write_joined-returns-clause-words
write_joined-returns-clause-words t c =
    c.loop-l.invariant.words ∙ ap (λ l. replaced c.args.first (joined_bits (outlines (take c.args.limit (declared_in c.args.t.now).layouts) (list_layouts l)) (view c.args.v.now)) (packed c.args.words.now)) (take_all c.loop-l.l-index c.args.ls.now (omega arith))

pub write_joined-returns-clause-behind : goal.write_joined-returns-clause-behind
write_joined-returns-clause-behind t c =
    c.loop-l.invariant.behind ∙ ap (λ l. c.args.first + length (joined_bits (outlines (take c.args.limit (declared_in c.args.t.now).layouts) (list_layouts l)) (view c.args.v.now))) (take_all c.loop-l.l-index c.args.ls.now (omega arith))

pub write_parts-returns-clause-words : goal.write_parts-returns-clause-words
write_parts-returns-clause-words t c =
    c.loop-f.invariant.words ∙ ap (λ l. replaced c.args.first (parts_bits (field_outlines (take c.args.limit (declared_in c.args.t.now).layouts) (list_fields l)) (list_named_values c.args.fields.now)) (packed c.args.words.now)) (take_all c.loop-f.f-index c.args.fs.now (omega arith))

pub write_parts-returns-clause-behind : goal.write_parts-returns-clause-behind
write_parts-returns-clause-behind t c =
    c.loop-f.invariant.behind ∙ ap (λ l. c.args.first + length (parts_bits (field_outlines (take c.args.limit (declared_in c.args.t.now).layouts) (list_fields l)) (list_named_values c.args.fields.now))) (take_all c.loop-f.f-index c.args.fs.now (omega arith))

pub write_part-write_field-requires : goal.write_part-write_field-requires
write_part-write_field-requires t c =
    (omega (arith, c.decreases), (c.requires.inside, (c.requires.few, c.requires.blank)))

pub write_part-write_field-requires-in-None : goal.write_part-write_field-requires-in-None
write_part-write_field-requires-in-None t c =
    (omega (arith, c.decreases), (c.requires.inside, (c.requires.few, c.requires.blank)))

pub write_part-returns-in-Some-clause-words : goal.write_part-returns-in-Some-clause-words
write_part-returns-in-Some-clause-words t c =
    c.write_field.ensures.words ∙ ap (λ u. replaced c.args.at (bits_of (field_outline (take c.args.limit (declared_in c.args.t.now).layouts) (field_tree c.args.f.now.1)) u) (packed c.args.words.now)) (c.in-Some.ensures.found.1 c.index-fields-i.result)

pub write_part-returns-in-Some-clause-behind : goal.write_part-returns-in-Some-clause-behind
write_part-returns-in-Some-clause-behind t c =
    c.write_field.ensures.behind ∙ ap (λ u. c.args.at + length (bits_of (field_outline (take c.args.limit (declared_in c.args.t.now).layouts) (field_tree c.args.f.now.1)) u)) (c.in-Some.ensures.found.1 c.index-fields-i.result)

pub write_part-returns-in-None-clause-words : goal.write_part-returns-in-None-clause-words
write_part-returns-in-None-clause-words t c =
    c.write_field-in-None.ensures.words ∙ ap (λ u. replaced c.args.at (bits_of (field_outline (take c.args.limit (declared_in c.args.t.now).layouts) (field_tree c.args.f.now.1)) u) (packed c.args.words.now)) (sym c.in-None.ensures.none.1)

pub write_part-returns-in-None-clause-behind : goal.write_part-returns-in-None-clause-behind
write_part-returns-in-None-clause-behind t c =
    c.write_field-in-None.ensures.behind ∙ ap (λ u. c.args.at + length (bits_of (field_outline (take c.args.limit (declared_in c.args.t.now).layouts) (field_tree c.args.f.now.1)) u)) (sym c.in-None.ensures.none.1)

pub write_chosen-write_field-requires : goal.write_chosen-write_field-requires
write_chosen-write_field-requires t c =
    let most = longest_within (take c.args.limit (declared_in c.args.t.now).layouts) c.args.fs.now c.loop-f.f-index c.f-item.result c.loop-f-test.true c.f-item.is in
    let same = ap packed c.loop-f.invariant.words in
    let long = ap length c.loop-f.invariant.words in
    (omega (arith, c.decreases, highest_named_within (take c.args.limit (declared_in c.args.t.now).layouts) c.args.fs.now c.loop-f.f-index c.f-item.result c.loop-f-test.true c.f-item.is), (omega (arith, c.requires.inside), (omega (arith, c.requires.few), subst (λ w. IsBlankFrom c.args.at (packed w)) (sym c.loop-f.invariant.words) c.requires.blank)))

pub write_chosen-returns-in-Some-clause-words : goal.write_chosen-returns-in-Some-clause-words
write_chosen-returns-in-Some-clause-words t c =
    c.write_field.ensures.words ∙ ap (λ u. replaced c.args.at (bits_of (field_outline (take c.args.limit (declared_in c.args.t.now).layouts) (field_tree c.f-item.result.1)) u) (packed c.loop-f.words)) (c.in-Some.ensures.found.1 c.index-fields-i.result) ∙ ap (λ w. replaced c.args.at (bits_of (field_outline (take c.args.limit (declared_in c.args.t.now).layouts) (field_tree c.f-item.result.1)) (field_named c.f-item.result.0 (list_named_values c.args.fields.now))) (packed w)) c.loop-f.invariant.words ∙ ap (λ l. replaced c.args.at l (packed c.args.words.now)) (sym (sym c.loop-f.invariant.bits ∙ (chosen-turn (take c.args.limit (declared_in c.args.t.now).layouts) c.args.fs.now c.loop-f.f-index c.f-item.result (list_named_values c.args.fields.now) c.loop-f-test.true c.f-item.is) ∙ if-true _ _ _ c.in-Some.ensures.has))

pub write_chosen-returns-in-Some-clause-behind : goal.write_chosen-returns-in-Some-clause-behind
write_chosen-returns-in-Some-clause-behind t c =
    c.write_field.ensures.behind ∙ ap (λ u. c.args.at + length (bits_of (field_outline (take c.args.limit (declared_in c.args.t.now).layouts) (field_tree c.f-item.result.1)) u)) (c.in-Some.ensures.found.1 c.index-fields-i.result) ∙ ap (λ l. c.args.at + length l) (sym (sym c.loop-f.invariant.bits ∙ (chosen-turn (take c.args.limit (declared_in c.args.t.now).layouts) c.args.fs.now c.loop-f.f-index c.f-item.result (list_named_values c.args.fields.now) c.loop-f-test.true c.f-item.is) ∙ if-true _ _ _ c.in-Some.ensures.has))

pub write_chosen-loop-f-init : goal.write_chosen-loop-f-init
write_chosen-loop-f-init t c =
    record { bits = refl; words = refl }

pub write_chosen-loop-f-preserved : goal.write_chosen-loop-f-preserved
write_chosen-loop-f-preserved t c =
    record {
      bits = sym ((chosen-turn (take c.args.limit (declared_in c.args.t.now).layouts) c.args.fs.now c.loop-f.f-index c.f-item.result (list_named_values c.args.fields.now) c.loop-f-test.true c.f-item.is) ∙ if-false _ _ _ c.in-None.ensures.none.0) ∙ c.loop-f.invariant.bits;
      words = c.loop-f.invariant.words;
    }

pub write_chosen-returns-clause-words : goal.write_chosen-returns-clause-words
write_chosen-returns-clause-words t c =
    ap packed c.loop-f.invariant.words ∙ sym (ap (λ l. replaced c.args.at l (packed c.args.words.now)) (sym c.loop-f.invariant.bits ∙ ap (λ l. chosen_bits (field_outlines (take c.args.limit (declared_in c.args.t.now).layouts) (list_fields l)) (list_named_values c.args.fields.now)) (drop_all c.loop-f.f-index c.args.fs.now (omega arith))) ∙ replaced-nothing c.args.at (packed c.args.words.now))

pub write_chosen-returns-clause-behind : goal.write_chosen-returns-clause-behind
write_chosen-returns-clause-behind t c =
    let e = ap length (sym c.loop-f.invariant.bits ∙ ap (λ l. chosen_bits (field_outlines (take c.args.limit (declared_in c.args.t.now).layouts) (list_fields l)) (list_named_values c.args.fields.now)) (drop_all c.loop-f.f-index c.args.fs.now (omega arith))) in
    omega arith

pub write_field-write_bits-requires-clause-inside : goal.write_field-write_bits-requires-clause-inside
write_field-write_bits-requires-clause-inside t c =
    subst (λ o. c.args.at + size o ≤ 32 * length c.args.words.now) (ap (λ k. field_outline (take c.args.limit (declared_in c.args.t.now).layouts) (field_tree k)) c.in-Bits.is) c.requires.inside

pub write_field-write_bits-requires-clause-few : goal.write_field-write_bits-requires-clause-few
write_field-write_bits-requires-clause-few t c =
    c.requires.few

pub write_field-write_bits-requires-clause-blank : goal.write_field-write_bits-requires-clause-blank
write_field-write_bits-requires-clause-blank t c =
    c.requires.blank

pub write_layout-overflow_add-result : goal.write_layout-overflow_add-result
write_layout-overflow_add-result t c =
    let s = ap size (ap (λ k. outline (take c.args.limit (declared_in c.args.t.now).layouts) (layout_tree k)) c.in-Gap.is) in
    omega (arith, c.requires.inside, c.requires.few)

pub write_field-write_layout-requires : goal.write_field-write_layout-requires
write_field-write_layout-requires t c =
    let e = ap outline_height (ap (λ k. field_outline (take c.args.limit (declared_in c.args.t.now).layouts) (field_tree k)) c.in-Inner.is) in
    (omega (arith, c.decreases, alias-low (layout_tree c.in-Inner.l)), (subst (λ o. c.args.at + size o ≤ 32 * length c.args.words.now) (ap (λ k. field_outline (take c.args.limit (declared_in c.args.t.now).layouts) (field_tree k)) c.in-Inner.is) c.requires.inside, (c.requires.few, c.requires.blank)))

pub write_field-write_chosen-requires : goal.write_field-write_chosen-requires
write_field-write_chosen-requires t c =
    let e = ap outline_height (ap (field_outline (take c.args.limit (declared_in c.args.t.now).layouts)) (overlay_is c.args.f.now c.in-Overlay.fs c.in-Overlay.is) ∙ ap (λ k. OverlayOutline (field_outlines (take c.args.limit (declared_in c.args.t.now).layouts) (list_fields k))) (sym c.deref.ensures.value)) in
    (omega (arith, c.decreases), (subst (λ o. c.args.at + size o ≤ 32 * length c.args.words.now) (ap (field_outline (take c.args.limit (declared_in c.args.t.now).layouts)) (overlay_is c.args.f.now c.in-Overlay.fs c.in-Overlay.is) ∙ ap (λ k. OverlayOutline (field_outlines (take c.args.limit (declared_in c.args.t.now).layouts) (list_fields k))) (sym c.deref.ensures.value)) c.requires.inside, (c.requires.few, c.requires.blank)))

pub write_field-returns-in-Bits-clause-words : goal.write_field-returns-in-Bits-clause-words
write_field-returns-in-Bits-clause-words t c =
    c.write_bits.ensures.words ∙ ap (λ w. replaced c.args.at (bits c.in-Bits.n w) (packed c.args.words.now)) c.number.ensures ∙ sym (ap (λ o. replaced c.args.at (bits_of o (view c.args.v.now)) (packed c.args.words.now)) (ap (λ k. field_outline (take c.args.limit (declared_in c.args.t.now).layouts) (field_tree k)) c.in-Bits.is))

pub write_field-returns-in-Bits-clause-behind : goal.write_field-returns-in-Bits-clause-behind
write_field-returns-in-Bits-clause-behind t c =
    c.write_bits.ensures.behind ∙ ap (λ w. c.args.at + length (bits c.in-Bits.n w)) c.number.ensures ∙ sym (ap (λ o. c.args.at + length (bits_of o (view c.args.v.now))) (ap (λ k. field_outline (take c.args.limit (declared_in c.args.t.now).layouts) (field_tree k)) c.in-Bits.is))

pub write_field-returns-in-Inner-clause-words : goal.write_field-returns-in-Inner-clause-words
write_field-returns-in-Inner-clause-words t c =
    c.write_layout.ensures.words ∙ sym (ap (λ o. replaced c.args.at (bits_of o (view c.args.v.now)) (packed c.args.words.now)) (ap (λ k. field_outline (take c.args.limit (declared_in c.args.t.now).layouts) (field_tree k)) c.in-Inner.is))

pub write_field-returns-in-Inner-clause-behind : goal.write_field-returns-in-Inner-clause-behind
write_field-returns-in-Inner-clause-behind t c =
    c.write_layout.ensures.behind ∙ sym (ap (λ o. c.args.at + length (bits_of o (view c.args.v.now))) (ap (λ k. field_outline (take c.args.limit (declared_in c.args.t.now).layouts) (field_tree k)) c.in-Inner.is))

pub write_field-returns-in-Overlay-clause-words : goal.write_field-returns-in-Overlay-clause-words
write_field-returns-in-Overlay-clause-words t c =
    c.write_chosen.ensures.words ∙ ap (λ vs. replaced c.args.at (chosen_bits (field_outlines (take c.args.limit (declared_in c.args.t.now).layouts) (list_fields c.deref.result.now)) vs) (packed c.args.words.now)) c.fields_in.ensures ∙ sym (ap (λ o. replaced c.args.at (bits_of o (view c.args.v.now)) (packed c.args.words.now)) (ap (field_outline (take c.args.limit (declared_in c.args.t.now).layouts)) (overlay_is c.args.f.now c.in-Overlay.fs c.in-Overlay.is) ∙ ap (λ k. OverlayOutline (field_outlines (take c.args.limit (declared_in c.args.t.now).layouts) (list_fields k))) (sym c.deref.ensures.value)))

pub write_field-returns-in-Overlay-clause-behind : goal.write_field-returns-in-Overlay-clause-behind
write_field-returns-in-Overlay-clause-behind t c =
    c.write_chosen.ensures.behind ∙ ap (λ vs. c.args.at + length (chosen_bits (field_outlines (take c.args.limit (declared_in c.args.t.now).layouts) (list_fields c.deref.result.now)) vs)) c.fields_in.ensures ∙ sym (ap (λ o. c.args.at + length (bits_of o (view c.args.v.now))) (ap (field_outline (take c.args.limit (declared_in c.args.t.now).layouts)) (overlay_is c.args.f.now c.in-Overlay.fs c.in-Overlay.is) ∙ ap (λ k. OverlayOutline (field_outlines (take c.args.limit (declared_in c.args.t.now).layouts) (list_fields k))) (sym c.deref.ensures.value)))
