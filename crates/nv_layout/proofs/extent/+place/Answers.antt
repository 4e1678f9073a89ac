use Rattle.std.proofs.Common.{◌∙◌, ◌++◌, ◌<◌, length, take, ap, sym, arith}
use Rattle.nv_ast.specs.Outline.{size, total_named_size, longest, total_size, bit_fields, part_fields, joined_fields, outline_height, highest_named_outline, highest_outline}
use Rattle.nv_ast.proofs.Items.{added_step}
use Rattle.nv_layout.specs.OutlineView.{outline_tree, list_named_outlines, list_outlines}
use Rattle.nv_layout.proofs.Rows.{parts_tree, overlay_tree, joined_tree}
use Rattle.nv_layout.proofs.Lists.{total_named_more, total_named_within, longest_more, longest_within, total_more, total_within, highest_named_within, highest_within, part_fields_more, alternative_fields_more, joined_fields_more}
use Rattle.nv_layout.proofs.extent.+place.Goals as goal

pub place-place_parts-requires : goal.place-place_parts-requires
place-place_parts-requires t c =
    let is = c.in-Parts.is in
    let tree = parts_tree c.in-Parts.fs in
    let items = c.deref.ensures.value in (
      omega (arith, c.decreases, ap (λ o. outline_height (outline_tree o)) is, ap outline_height tree, ap (λ l. highest_named_outline (list_named_outlines l)) items),
      omega (arith, c.requires, ap (λ o. size (outline_tree o)) is, ap size tree, ap (λ l. total_named_size (list_named_outlines l)) items),
    )

pub place-place_alternatives-requires : goal.place-place_alternatives-requires
place-place_alternatives-requires t c =
    let is = c.in-Overlay.is in
    let tree = overlay_tree c.in-Overlay.fs in
    let items = c.deref-in-Overlay.ensures.value in (
      omega (arith, c.decreases, ap (λ o. outline_height (outline_tree o)) is, ap outline_height tree, ap (λ l. highest_named_outline (list_named_outlines l)) items),
      omega (arith, c.requires, ap (λ o. size (outline_tree o)) is, ap size tree, ap (λ l. longest (list_named_outlines l)) items),
    )

pub place-place_joined-requires : goal.place-place_joined-requires
place-place_joined-requires t c =
    let is = c.in-Joined.is in
    let tree = joined_tree c.in-Joined.os in
    let items = c.deref-in-Joined.ensures.value in (
      omega (arith, c.decreases, ap (λ o. outline_height (outline_tree o)) is, ap outline_height tree, ap (λ l. highest_outline (list_outlines l)) items),
      omega (arith, c.requires, ap (λ o. size (outline_tree o)) is, ap size tree, ap (λ l. total_size (list_outlines l)) items),
    )

pub place_parts-place-requires : goal.place_parts-place-requires
place_parts-place-requires t c =
    let h : c.loop-f.f-index < length c.args.fs.now = omega arith in
    (omega (arith, c.decreases, highest_named_within c.args.fs.now c.loop-f.f-index c.f-item.result h c.f-item.is), omega (arith, c.requires, c.loop-f.invariant.behind, total_named_within c.args.fs.now c.loop-f.f-index c.f-item.result h c.f-item.is))

pub place_alternatives-place-requires : goal.place_alternatives-place-requires
place_alternatives-place-requires t c =
    let h : c.loop-f.f-index < length c.args.fs.now = omega arith in
    (omega (arith, c.decreases, highest_named_within c.args.fs.now c.loop-f.f-index c.f-item.result h c.f-item.is), omega (arith, c.requires, longest_within c.args.fs.now c.loop-f.f-index c.f-item.result h c.f-item.is))

pub place_joined-place-requires : goal.place_joined-place-requires
place_joined-place-requires t c =
    let h : c.loop-o.o-index < length c.args.os.now = omega arith in
    (omega (arith, c.decreases, highest_within c.args.os.now c.loop-o.o-index c.o-item.result h c.o-item.is), omega (arith, c.requires, c.loop-o.invariant.behind, total_within c.args.os.now c.loop-o.o-index c.o-item.result h c.o-item.is))

pub place_parts-loop-f-preserved : goal.place_parts-loop-f-preserved
place_parts-loop-f-preserved t c =
    let h : c.loop-f.f-index < length c.args.fs.now = omega arith in
    let before = part_fields c.args.first (list_named_outlines (take c.loop-f.f-index c.args.fs.now)) in
    record {
      behind = omega (arith, c.loop-f.invariant.behind, total_named_more c.args.fs.now c.loop-f.f-index c.f-item.result h c.f-item.is, c.in_ok-at.ensures.behind);
      added = added_step _ _ _ _ _ _ c.in_ok-at.ensures.added c.loop-f.invariant.added (part_fields_more c.args.first c.args.fs.now c.loop-f.f-index c.f-item.result h c.f-item.is ∙ ap (λ k. before ++ bit_fields k (outline_tree c.f-item.result.1)) (sym c.loop-f.invariant.behind));
    }

pub place_alternatives-loop-f-preserved : goal.place_alternatives-loop-f-preserved
place_alternatives-loop-f-preserved t c =
    let h : c.loop-f.f-index < length c.args.fs.now = omega arith in
    record {
      behind = omega (arith, c.loop-f.invariant.behind, longest_more c.args.fs.now c.loop-f.f-index c.f-item.result h c.f-item.is, c.in_ok-place.ensures.behind, c.max-behind.ensures);
      added = added_step _ _ _ _ _ _ c.in_ok-place.ensures.added c.loop-f.invariant.added (alternative_fields_more c.args.first c.args.fs.now c.loop-f.f-index c.f-item.result h c.f-item.is);
    }

pub place_joined-loop-o-preserved : goal.place_joined-loop-o-preserved
place_joined-loop-o-preserved t c =
    let h : c.loop-o.o-index < length c.args.os.now = omega arith in
    let before = joined_fields c.args.first (list_outlines (take c.loop-o.o-index c.args.os.now)) in
    record {
      behind = omega (arith, c.loop-o.invariant.behind, total_more c.args.os.now c.loop-o.o-index c.o-item.result h, ap (λ o. size (outline_tree o)) c.o-item.is, c.in_ok-at.ensures.behind);
      added = added_step _ _ _ _ _ _ c.in_ok-at.ensures.added c.loop-o.invariant.added (joined_fields_more c.args.first c.args.os.now c.loop-o.o-index c.o-item.result h c.o-item.is ∙ ap (λ k. before ++ bit_fields k (outline_tree c.o-item.result)) (sym c.loop-o.invariant.behind));
    }
