use Rattle.std.proofs.Common.{◌≡◌, ◌∙◌, ◌+◌, ◌*◌, ◌≤◌, ap, sym, refl, subst, arith, List, [], ℕ, take, length, IfOk, OnOk}
use Rattle.std.proofs.lemmas.List.{take_all, length-replicate, drop_all}
use Rattle.std.proofs.lemmas.Result.{IfOk-weaker}
use Rattle.nv_base.specs.declared.term.Atom.{Atom}
use Rattle.nv_base.specs.declared.term.Atom.TheVariants.{Lit}
use Rattle.nv_base.specs.Words.{Env}
use Rattle.nv_ast.specs.Bits.{bits}
use Rattle.nv_ast.specs.declared.tree.LayoutText.{LayoutText}
use Rattle.nv_ast.specs.LayoutView.{layout_tree, field_tree, list_fields, list_layouts}
use Rattle.nv_ast.specs.Outline.{OutlineTree, BitsOutline, GapOutline, PartsOutline, no_named_outlines, JoinedOutline, OverlayOutline, outline, outlines, field_outline, field_outlines, size, outline_height, IsSound, AllSound, AllNamedSound}
use Rattle.nv_ast.proofs.Reading.{parts_is, joined_is, overlay_is}
use Rattle.nv_layout.proofs.BitLists.{length-bits}
use Rattle.nv_meaning.specs.Values.{Value, word_of, field_named, fields_of}
use Rattle.nv_meaning.specs.Packing.{bits_of, parts_bits, chosen_bits, joined_bits}
use Rattle.nv_meaning_values.specs.inner.TableView.{declared_in}
use Rattle.nv_meaning_values.proofs.Unpacking.{FieldItem, alias_rank, alias-low, alias-none, total_named_within, longest_within, highest_named_within, total_within, highest_within}
use Rattle.nv_meaning.proofs.Writing.{parts_bits-more, joined_bits-more, chosen-turn, parts-within, joined-within, behind-more}
use Rattle.nv_meaning.proofs.Bindings.{if-true, if-false}
use Rattle.flat_ir.specs.declared.spine.Step.{Step}
use Rattle.nv_flatten_values.specs.inner.Symbols.{Symbol, Word, operands, value_in, word_operand, fields_of as symbols_of, field_named as symbol_named}
use Rattle.nv_flatten_values.specs.inner.View.{view}
use Rattle.nv_flatten_values.specs.inner.Reads.{Writes}
use Rattle.nv_flatten_values.specs.inner.Written.{packed_fields, packed_layout, packed_parts, packed_chosen, packed_joined, WritesFew}
use Rattle.nv_flatten_values.proofs.Reading.{sound-named, sound-joined}
use Rattle.nv_flatten_values.proofs.Writing.{part-there, word-value, word-older, word-fits, writes-none, writes-of, writes-then, part-writes}
use Rattle.nv_flatten_values.proofs.Lets.{adds-turn}
use Rattle.nv_flatten_values.proofs.WordLets.{words-none, words-of-word, words-of-part, words-of-zero, words-from}
use Rattle.nv_flatten_values.proofs.PackedFields.{layout-fields, parts-more, joined-more, chosen-turn as chosen-fields}
use Rattle.nv_flatten_values.proofs.PackedSteps.{writes-none as few-none, writes-then as few-then, writes-at-most as few-at-most, writes-word as few-word, writes-part as few-part, writes-zero as few-zero, writes-from as few-from}
use Rattle.nv_flatten_values.proofs.pack.+write.Goals as goal
use Rattle.nv_flatten_values.proofs.ValueArms.{field-value}

pub write_layout-write_layout-requires : goal.write_layout-write_layout-requires
write_layout-write_layout-requires t c =
    let e = ap outline_height (ap (λ k. outline (take c.args.limit (declared_in c.args.t.now).layouts) (layout_tree k)) c.in-Named.is ∙ c.in-Some.ensures.outline) in
    let r = alias-none (layout_tree c.in-Some.named.now) c.in-Some.ensures.unnamed in
    let s : alias_rank (layout_tree c.args.l.now) ≡ 1 = ap (λ k. alias_rank (layout_tree k)) c.in-Named.is in
    (omega (arith, c.decreases), (subst (λ (o : OutlineTree). c.args.at + size o ≤ 32 * length c.args.words.now) (ap (λ k. outline (take c.args.limit (declared_in c.args.t.now).layouts) (layout_tree k)) c.in-Named.is ∙ c.in-Some.ensures.outline) c.requires.inside, c.requires.few))

pub write_layout-write_parts-requires : goal.write_layout-write_parts-requires
write_layout-write_parts-requires t c =
    let e = ap outline_height (ap (outline (take c.args.limit (declared_in c.args.t.now).layouts)) (parts_is c.args.l.now c.in-Parts.fs c.in-Parts.is) ∙ ap (λ k. PartsOutline (field_outlines (take c.args.limit (declared_in c.args.t.now).layouts) (list_fields k))) (sym c.deref.ensures.value)) in
    (omega (arith, c.decreases), (subst (λ (o : OutlineTree). c.args.at + size o ≤ 32 * length c.args.words.now) (ap (outline (take c.args.limit (declared_in c.args.t.now).layouts)) (parts_is c.args.l.now c.in-Parts.fs c.in-Parts.is) ∙ ap (λ k. PartsOutline (field_outlines (take c.args.limit (declared_in c.args.t.now).layouts) (list_fields k))) (sym c.deref.ensures.value)) c.requires.inside, c.requires.few))

pub write_layout-write_joined-requires : goal.write_layout-write_joined-requires
write_layout-write_joined-requires t c =
    let e = ap outline_height (ap (outline (take c.args.limit (declared_in c.args.t.now).layouts)) (joined_is c.args.l.now c.in-Joined.ls c.in-Joined.is) ∙ ap (λ k. JoinedOutline (outlines (take c.args.limit (declared_in c.args.t.now).layouts) (list_layouts k))) (sym c.deref-in-Joined.ensures.value)) in
    (omega (arith, c.decreases), (subst (λ (o : OutlineTree). c.args.at + size o ≤ 32 * length c.args.words.now) (ap (outline (take c.args.limit (declared_in c.args.t.now).layouts)) (joined_is c.args.l.now c.in-Joined.ls c.in-Joined.is) ∙ ap (λ k. JoinedOutline (outlines (take c.args.limit (declared_in c.args.t.now).layouts) (list_layouts k))) (sym c.deref-in-Joined.ensures.value)) c.requires.inside, c.requires.few))

pub write_joined-write_layout-requires : goal.write_joined-write_layout-requires
write_joined-write_layout-requires t c =
    let short = joined-within (outlines (take c.args.limit (declared_in c.args.t.now).layouts) (list_layouts (take c.loop-l.l-index c.args.ls.now))) (value_in (λ x. 0) (view c.args.s.now)) in
    let room = total_within (take c.args.limit (declared_in c.args.t.now).layouts) c.args.ls.now c.loop-l.l-index c.l-item.result c.loop-l-test.true c.l-item.is in
    (omega (arith, c.decreases, highest_within (take c.args.limit (declared_in c.args.t.now).layouts) c.args.ls.now c.loop-l.l-index c.l-item.result c.loop-l-test.true c.l-item.is, alias-low (layout_tree c.l-item.result)), (omega (arith, c.loop-l.invariant.behind (λ x. 0), c.requires.inside), omega (arith, c.requires.few)))

pub write_parts-write_part-requires : goal.write_parts-write_part-requires
write_parts-write_part-requires t c =
    let short = parts-within (field_outlines (take c.args.limit (declared_in c.args.t.now).layouts) (list_fields (take c.loop-f.f-index c.args.fs.now))) (fields_of (value_in (λ x. 0) (view c.args.s.now))) in
    let room = total_named_within (take c.args.limit (declared_in c.args.t.now).layouts) c.args.fs.now c.loop-f.f-index c.f-item.result c.loop-f-test.true c.f-item.is in
    (omega (arith, c.decreases, highest_named_within (take c.args.limit (declared_in c.args.t.now).layouts) c.args.fs.now c.loop-f.f-index c.f-item.result c.loop-f-test.true c.f-item.is), (omega (arith, c.loop-f.invariant.behind (λ x. 0), c.requires.inside), omega (arith, c.requires.few)))

pub write_part-write_field-requires : goal.write_part-write_field-requires
write_part-write_field-requires t c =
    (omega (arith, c.decreases), (c.requires.inside, c.requires.few))

pub write_part-write_field-requires-in-None : goal.write_part-write_field-requires-in-None
write_part-write_field-requires-in-None t c =
    (omega (arith, c.decreases), (c.requires.inside, c.requires.few))

pub write_chosen-write_field-requires : goal.write_chosen-write_field-requires
write_chosen-write_field-requires t c =
    let most = longest_within (take c.args.limit (declared_in c.args.t.now).layouts) c.args.fs.now c.loop-f.f-index c.f-item.result c.loop-f-test.true c.f-item.is in
    let long = ap length c.loop-f.invariant.words in
    (omega (arith, c.decreases, highest_named_within (take c.args.limit (declared_in c.args.t.now).layouts) c.args.fs.now c.loop-f.f-index c.f-item.result c.loop-f-test.true c.f-item.is), (omega (arith, c.requires.inside), omega (arith, c.requires.few)))

pub write_field-write_layout-requires : goal.write_field-write_layout-requires
write_field-write_layout-requires t c =
    let e = ap outline_height (ap (λ k. field_outline (take c.args.limit (declared_in c.args.t.now).layouts) (field_tree k)) c.in-Inner.is) in
    (omega (arith, c.decreases, alias-low (layout_tree c.in-Inner.l)), (subst (λ (o : OutlineTree). c.args.at + size o ≤ 32 * length c.args.words.now) (ap (λ k. field_outline (take c.args.limit (declared_in c.args.t.now).layouts) (field_tree k)) c.in-Inner.is) c.requires.inside, c.requires.few))

pub write_field-write_chosen-requires : goal.write_field-write_chosen-requires
write_field-write_chosen-requires t c =
    let e = ap outline_height (ap (field_outline (take c.args.limit (declared_in c.args.t.now).layouts)) (overlay_is c.args.f.now c.in-Overlay.fs c.in-Overlay.is) ∙ ap (λ k. OverlayOutline (field_outlines (take c.args.limit (declared_in c.args.t.now).layouts) (list_fields k))) (sym c.deref.ensures.value)) in
    (omega (arith, c.decreases), (subst (λ (o : OutlineTree). c.args.at + size o ≤ 32 * length c.args.words.now) (ap (field_outline (take c.args.limit (declared_in c.args.t.now).layouts)) (overlay_is c.args.f.now c.in-Overlay.fs c.in-Overlay.is) ∙ ap (λ k. OverlayOutline (field_outlines (take c.args.limit (declared_in c.args.t.now).layouts) (list_fields k))) (sym c.deref.ensures.value)) c.requires.inside, c.requires.few))

pub write_layout-returns-in-Some-clause-writes : goal.write_layout-returns-in-Some-clause-writes
write_layout-returns-in-Some-clause-writes t c =
    subst (λ (o : OutlineTree). OnOk c.write_layout.result (Writes (IsSound o) c.args.next.now c.write_layout.new.next (view c.args.s.now) c.args.steps.now.items c.write_layout.new.steps.items c.args.words.now c.write_layout.new.words c.args.at (λ v. bits_of o v))) (sym (ap (λ k. outline (take c.args.limit (declared_in c.args.t.now).layouts) (layout_tree k)) c.in-Named.is ∙ c.in-Some.ensures.outline)) c.write_layout.ensures.writes

pub write_layout-returns-in-Some-clause-behind : goal.write_layout-returns-in-Some-clause-behind
write_layout-returns-in-Some-clause-behind t c =
    subst (λ (o : OutlineTree). IfOk c.write_layout.result (λ i. (env : Env) → i ≡ c.args.at + length (bits_of o (value_in env (view c.args.s.now))))) (sym (ap (λ k. outline (take c.args.limit (declared_in c.args.t.now).layouts) (layout_tree k)) c.in-Named.is ∙ c.in-Some.ensures.outline)) c.write_layout.ensures.behind

pub write_layout-returns-in-None-clause-writes : goal.write_layout-returns-in-None-clause-writes
write_layout-returns-in-None-clause-writes t c =
    subst (λ (o : OutlineTree). Writes (IsSound o) c.args.next.now c.args.next.now (view c.args.s.now) c.args.steps.now.items c.args.steps.now.items c.args.words.now c.args.words.now c.args.at (λ v. bits_of o v)) (sym (ap (λ k. outline (take c.args.limit (declared_in c.args.t.now).layouts) (layout_tree k)) c.in-Named.is ∙ c.in-None.ensures.outline))
    (writes-none (IsSound (PartsOutline no_named_outlines)) c.args.next.now (view c.args.s.now) c.args.steps.now.items c.args.words.now c.args.at 0 (λ v. bits_of (PartsOutline no_named_outlines) v) (omega (arith, c.requires.inside)) (λ v. refl))

pub write_layout-returns-in-None-clause-behind : goal.write_layout-returns-in-None-clause-behind
write_layout-returns-in-None-clause-behind t c =
    λ env. (let e = ap (λ o. length (bits_of o (value_in env (view c.args.s.now)))) (ap (λ k. outline (take c.args.limit (declared_in c.args.t.now).layouts) (layout_tree k)) c.in-Named.is ∙ c.in-None.ensures.outline) in omega arith)

pub write_layout-returns-in-Gap-clause-writes : goal.write_layout-returns-in-Gap-clause-writes
write_layout-returns-in-Gap-clause-writes t c =
    subst (λ (o : OutlineTree). Writes (IsSound o) c.args.next.now c.args.next.now (view c.args.s.now) c.args.steps.now.items c.args.steps.now.items c.args.words.now c.args.words.now c.args.at (λ v. bits_of o v)) (sym (ap (λ k. outline (take c.args.limit (declared_in c.args.t.now).layouts) (layout_tree k)) c.in-Gap.is))
    (writes-none (IsSound (GapOutline c.in-Gap.n)) c.args.next.now (view c.args.s.now) c.args.steps.now.items c.args.words.now c.args.at c.in-Gap.n (λ v. bits_of (GapOutline c.in-Gap.n) v) (subst (λ (o : OutlineTree). c.args.at + size o ≤ 32 * length c.args.words.now) (ap (λ k. outline (take c.args.limit (declared_in c.args.t.now).layouts) (layout_tree k)) c.in-Gap.is) c.requires.inside) (λ v. refl))

pub write_layout-returns-in-Gap-clause-behind : goal.write_layout-returns-in-Gap-clause-behind
write_layout-returns-in-Gap-clause-behind t c =
    λ env. (let e = ap (λ o. length (bits_of o (value_in env (view c.args.s.now)))) (ap (λ k. outline (take c.args.limit (declared_in c.args.t.now).layouts) (layout_tree k)) c.in-Gap.is) ∙ length-replicate c.in-Gap.n 0 in omega arith)

pub write_layout-overflow_add-result : goal.write_layout-overflow_add-result
write_layout-overflow_add-result t c =
    let s = ap size (ap (λ k. outline (take c.args.limit (declared_in c.args.t.now).layouts) (layout_tree k)) c.in-Gap.is) in
    omega (arith, c.requires.inside, c.requires.few)

pub write_layout-returns-in-Parts-clause-writes : goal.write_layout-returns-in-Parts-clause-writes
write_layout-returns-in-Parts-clause-writes t c =
    IfOk-weaker c.write_parts.result _ _
    (λ i m. subst (λ (o : OutlineTree). Writes (IsSound o) c.args.next.now c.write_parts.new.next (view c.args.s.now) c.args.steps.now.items c.write_parts.new.steps.items c.args.words.now c.write_parts.new.words c.args.at (λ v. bits_of o v)) (sym (ap (outline (take c.args.limit (declared_in c.args.t.now).layouts)) (parts_is c.args.l.now c.in-Parts.fs c.in-Parts.is) ∙ ap (λ k. PartsOutline (field_outlines (take c.args.limit (declared_in c.args.t.now).layouts) (list_fields k))) (sym c.deref.ensures.value)))
    (writes-of (AllNamedSound (field_outlines (take c.args.limit (declared_in c.args.t.now).layouts) (list_fields c.deref.result.now))) (IsSound (PartsOutline (field_outlines (take c.args.limit (declared_in c.args.t.now).layouts) (list_fields c.deref.result.now)))) c.args.next.now c.write_parts.new.next (view c.args.s.now) (view c.args.s.now) c.args.steps.now.items c.write_parts.new.steps.items c.args.words.now c.write_parts.new.words c.args.at (λ v. parts_bits (field_outlines (take c.args.limit (declared_in c.args.t.now).layouts) (list_fields c.deref.result.now)) (fields_of v)) (λ v. bits_of (PartsOutline (field_outlines (take c.args.limit (declared_in c.args.t.now).layouts) (list_fields c.deref.result.now))) v) m (λ q. q.0) (λ o. o) (λ env g. g) (λ env. refl)))
    c.write_parts.ensures.writes

pub write_layout-returns-in-Parts-clause-behind : goal.write_layout-returns-in-Parts-clause-behind
write_layout-returns-in-Parts-clause-behind t c =
    subst (λ (o : OutlineTree). IfOk c.write_parts.result (λ i. (env : Env) → i ≡ c.args.at + length (bits_of o (value_in env (view c.args.s.now))))) (sym (ap (outline (take c.args.limit (declared_in c.args.t.now).layouts)) (parts_is c.args.l.now c.in-Parts.fs c.in-Parts.is) ∙ ap (λ k. PartsOutline (field_outlines (take c.args.limit (declared_in c.args.t.now).layouts) (list_fields k))) (sym c.deref.ensures.value))) c.write_parts.ensures.behind

pub write_layout-returns-in-Joined-clause-writes : goal.write_layout-returns-in-Joined-clause-writes
write_layout-returns-in-Joined-clause-writes t c =
    IfOk-weaker c.write_joined.result _ _
    (λ i m. subst (λ (o : OutlineTree). Writes (IsSound o) c.args.next.now c.write_joined.new.next (view c.args.s.now) c.args.steps.now.items c.write_joined.new.steps.items c.args.words.now c.write_joined.new.words c.args.at (λ v. bits_of o v)) (sym (ap (outline (take c.args.limit (declared_in c.args.t.now).layouts)) (joined_is c.args.l.now c.in-Joined.ls c.in-Joined.is) ∙ ap (λ k. JoinedOutline (outlines (take c.args.limit (declared_in c.args.t.now).layouts) (list_layouts k))) (sym c.deref-in-Joined.ensures.value)))
    (writes-of (AllSound (outlines (take c.args.limit (declared_in c.args.t.now).layouts) (list_layouts c.deref-in-Joined.result.now))) (IsSound (JoinedOutline (outlines (take c.args.limit (declared_in c.args.t.now).layouts) (list_layouts c.deref-in-Joined.result.now)))) c.args.next.now c.write_joined.new.next (view c.args.s.now) (view c.args.s.now) c.args.steps.now.items c.write_joined.new.steps.items c.args.words.now c.write_joined.new.words c.args.at (λ v. joined_bits (outlines (take c.args.limit (declared_in c.args.t.now).layouts) (list_layouts c.deref-in-Joined.result.now)) v) (λ v. bits_of (JoinedOutline (outlines (take c.args.limit (declared_in c.args.t.now).layouts) (list_layouts c.deref-in-Joined.result.now))) v) m (λ q. q.0) (λ o. o) (λ env g. g) (λ env. refl)))
    c.write_joined.ensures.writes

pub write_layout-returns-in-Joined-clause-behind : goal.write_layout-returns-in-Joined-clause-behind
write_layout-returns-in-Joined-clause-behind t c =
    subst (λ (o : OutlineTree). IfOk c.write_joined.result (λ i. (env : Env) → i ≡ c.args.at + length (bits_of o (value_in env (view c.args.s.now))))) (sym (ap (outline (take c.args.limit (declared_in c.args.t.now).layouts)) (joined_is c.args.l.now c.in-Joined.ls c.in-Joined.is) ∙ ap (λ k. JoinedOutline (outlines (take c.args.limit (declared_in c.args.t.now).layouts) (list_layouts k))) (sym c.deref-in-Joined.ensures.value))) c.write_joined.ensures.behind

pub write_joined-loop-l-init : goal.write_joined-loop-l-init
write_joined-loop-l-init t c =
    record {
      behind = λ env. omega arith;
      later = omega arith;
      writes = writes-none (AllSound (outlines (take c.args.limit (declared_in c.args.t.now).layouts) (list_layouts c.args.ls.now))) c.args.next.now (view c.args.s.now) c.args.steps.now.items c.args.words.now c.args.first 0 (λ v. []) (omega (arith, c.requires.inside)) (λ v. refl);
      well = words-none c.args.next.now (view c.args.s.now) c.args.steps.now.items c.args.words.now;
      bounds = few-none 0 (view c.args.s.now) c.args.steps.now.items c.args.words.now c.args.first c.args.first (omega arith);
    }

pub write_joined-loop-l-preserved : goal.write_joined-loop-l-preserved
write_joined-loop-l-preserved t c =
    let room = total_within (take c.args.limit (declared_in c.args.t.now).layouts) c.args.ls.now c.loop-l.l-index c.l-item.result c.loop-l-test.true c.l-item.is in
    let more' = λ (v : Value). joined_bits-more (take c.args.limit (declared_in c.args.t.now).layouts) c.args.ls.now c.loop-l.l-index c.l-item.result v c.loop-l-test.true c.l-item.is in
    record {
      behind = λ env. behind-more c.args.first c.loop-l.at c.in_ok-at.at (joined_bits (outlines (take c.args.limit (declared_in c.args.t.now).layouts) (list_layouts (take c.loop-l.l-index c.args.ls.now))) (value_in env (view c.args.s.now))) (bits_of (outline (take c.args.limit (declared_in c.args.t.now).layouts) (layout_tree c.l-item.result)) (value_in env (view c.args.s.now))) (joined_bits (outlines (take c.args.limit (declared_in c.args.t.now).layouts) (list_layouts (take (c.loop-l.l-index + 1) c.args.ls.now))) (value_in env (view c.args.s.now))) (c.loop-l.invariant.behind env) (c.in_ok-at.ensures.behind env) (more' (value_in env (view c.args.s.now)));
      later = omega (arith, c.loop-l.invariant.later, c.in_ok-at.ensures.later);
      writes = writes-then (AllSound (outlines (take c.args.limit (declared_in c.args.t.now).layouts) (list_layouts c.args.ls.now))) (AllSound (outlines (take c.args.limit (declared_in c.args.t.now).layouts) (list_layouts c.args.ls.now))) (IsSound (outline (take c.args.limit (declared_in c.args.t.now).layouts) (layout_tree c.l-item.result))) c.args.next.now c.loop-l.next c.write_layout.new.next (view c.args.s.now) c.args.steps.now.items c.loop-l.steps.items c.write_layout.new.steps.items c.args.words.now c.loop-l.words c.write_layout.new.words c.args.first c.loop-l.at
          (λ v. joined_bits (outlines (take c.args.limit (declared_in c.args.t.now).layouts) (list_layouts (take c.loop-l.l-index c.args.ls.now))) v) (λ v. bits_of (outline (take c.args.limit (declared_in c.args.t.now).layouts) (layout_tree c.l-item.result)) v) (λ v. joined_bits (outlines (take c.args.limit (declared_in c.args.t.now).layouts) (list_layouts (take (c.loop-l.l-index + 1) c.args.ls.now))) v)
          c.loop-l.invariant.writes c.in_ok-at.ensures.writes (λ q. q) (λ q. sound-joined (take c.args.limit (declared_in c.args.t.now).layouts) c.args.ls.now c.loop-l.l-index c.l-item.result c.loop-l-test.true c.l-item.is q)
          c.loop-l.invariant.behind (λ env. (let short = joined-within (outlines (take c.args.limit (declared_in c.args.t.now).layouts) (list_layouts (take c.loop-l.l-index c.args.ls.now))) (value_in env (view c.args.s.now)) in omega (arith, c.requires.inside))) more';
      well = adds-turn c.args.next.now c.loop-l.next c.write_layout.new.next (operands (view c.args.s.now)) c.args.words.now c.loop-l.words c.write_layout.new.words c.args.steps.now.items c.loop-l.steps.items c.write_layout.new.steps.items c.loop-l.invariant.well c.in_ok-at.ensures.well;
      bounds = few-then (packed_joined (outlines (take c.args.limit (declared_in c.args.t.now).layouts) (list_layouts (take c.loop-l.l-index c.args.ls.now))) (view c.args.s.now)) (packed_layout (outline (take c.args.limit (declared_in c.args.t.now).layouts) (layout_tree c.l-item.result)) (view c.args.s.now)) (packed_joined (outlines (take c.args.limit (declared_in c.args.t.now).layouts) (list_layouts (take (c.loop-l.l-index + 1) c.args.ls.now))) (view c.args.s.now))
          (view c.args.s.now) c.args.steps.now.items c.loop-l.steps.items c.write_layout.new.steps.items c.args.words.now c.loop-l.words c.write_layout.new.words c.args.first c.loop-l.at c.in_ok-at.at c.loop-l.invariant.bounds c.in_ok-at.ensures.bounds
          (joined-more (take c.args.limit (declared_in c.args.t.now).layouts) c.args.ls.now c.loop-l.l-index c.l-item.result (view c.args.s.now) c.loop-l-test.true c.l-item.is);
    }

pub write_joined-returns-clause-writes : goal.write_joined-returns-clause-writes
write_joined-returns-clause-writes t c =
    subst (λ (l : List LayoutText). Writes (AllSound (outlines (take c.args.limit (declared_in c.args.t.now).layouts) (list_layouts c.args.ls.now))) c.args.next.now c.loop-l.next (view c.args.s.now) c.args.steps.now.items c.loop-l.steps.items c.args.words.now c.loop-l.words c.args.first (λ v. joined_bits (outlines (take c.args.limit (declared_in c.args.t.now).layouts) (list_layouts l)) v))
    (take_all c.loop-l.l-index c.args.ls.now (omega arith)) c.loop-l.invariant.writes

pub write_joined-returns-clause-behind : goal.write_joined-returns-clause-behind
write_joined-returns-clause-behind t c =
    λ env. c.loop-l.invariant.behind env ∙ ap (λ l. c.args.first + length (joined_bits (outlines (take c.args.limit (declared_in c.args.t.now).layouts) (list_layouts l)) (value_in env (view c.args.s.now)))) (take_all c.loop-l.l-index c.args.ls.now (omega arith))

pub write_parts-loop-f-init : goal.write_parts-loop-f-init
write_parts-loop-f-init t c =
    record {
      behind = λ env. omega arith;
      later = omega arith;
      writes = writes-none (AllNamedSound (field_outlines (take c.args.limit (declared_in c.args.t.now).layouts) (list_fields c.args.fs.now))) c.args.next.now (view c.args.s.now) c.args.steps.now.items c.args.words.now c.args.first 0 (λ v. []) (omega (arith, c.requires.inside)) (λ v. refl);
      well = words-none c.args.next.now (view c.args.s.now) c.args.steps.now.items c.args.words.now;
      bounds = few-none 0 (view c.args.s.now) c.args.steps.now.items c.args.words.now c.args.first c.args.first (omega arith);
    }

pub write_parts-loop-f-preserved : goal.write_parts-loop-f-preserved
write_parts-loop-f-preserved t c =
    let room = total_named_within (take c.args.limit (declared_in c.args.t.now).layouts) c.args.fs.now c.loop-f.f-index c.f-item.result c.loop-f-test.true c.f-item.is in
    let more' = λ (v : Value). parts_bits-more (take c.args.limit (declared_in c.args.t.now).layouts) c.args.fs.now c.loop-f.f-index c.f-item.result (fields_of v) c.loop-f-test.true c.f-item.is in
    record {
      behind = λ env. behind-more c.args.first c.loop-f.at c.in_ok-at.at (parts_bits (field_outlines (take c.args.limit (declared_in c.args.t.now).layouts) (list_fields (take c.loop-f.f-index c.args.fs.now))) (fields_of (value_in env (view c.args.s.now)))) (bits_of (field_outline (take c.args.limit (declared_in c.args.t.now).layouts) (field_tree c.f-item.result.1)) (field_named c.f-item.result.0 (fields_of (value_in env (view c.args.s.now))))) (parts_bits (field_outlines (take c.args.limit (declared_in c.args.t.now).layouts) (list_fields (take (c.loop-f.f-index + 1) c.args.fs.now))) (fields_of (value_in env (view c.args.s.now)))) (c.loop-f.invariant.behind env) (c.in_ok-at.ensures.behind env) (more' (value_in env (view c.args.s.now)));
      later = omega (arith, c.loop-f.invariant.later, c.in_ok-at.ensures.later);
      writes = writes-then (AllNamedSound (field_outlines (take c.args.limit (declared_in c.args.t.now).layouts) (list_fields c.args.fs.now))) (AllNamedSound (field_outlines (take c.args.limit (declared_in c.args.t.now).layouts) (list_fields c.args.fs.now))) (IsSound (field_outline (take c.args.limit (declared_in c.args.t.now).layouts) (field_tree c.f-item.result.1))) c.args.next.now c.loop-f.next c.write_part.new.next (view c.args.s.now) c.args.steps.now.items c.loop-f.steps.items c.write_part.new.steps.items c.args.words.now c.loop-f.words c.write_part.new.words c.args.first c.loop-f.at
          (λ v. parts_bits (field_outlines (take c.args.limit (declared_in c.args.t.now).layouts) (list_fields (take c.loop-f.f-index c.args.fs.now))) (fields_of v)) (λ v. bits_of (field_outline (take c.args.limit (declared_in c.args.t.now).layouts) (field_tree c.f-item.result.1)) (field_named c.f-item.result.0 (fields_of v))) (λ v. parts_bits (field_outlines (take c.args.limit (declared_in c.args.t.now).layouts) (list_fields (take (c.loop-f.f-index + 1) c.args.fs.now))) (fields_of v))
          c.loop-f.invariant.writes c.in_ok-at.ensures.writes (λ q. q) (λ q. sound-named (take c.args.limit (declared_in c.args.t.now).layouts) c.args.fs.now c.loop-f.f-index c.f-item.result c.loop-f-test.true c.f-item.is q)
          c.loop-f.invariant.behind (λ env. (let short = parts-within (field_outlines (take c.args.limit (declared_in c.args.t.now).layouts) (list_fields (take c.loop-f.f-index c.args.fs.now))) (fields_of (value_in env (view c.args.s.now))) in omega (arith, c.requires.inside))) more';
      well = adds-turn c.args.next.now c.loop-f.next c.write_part.new.next (operands (view c.args.s.now)) c.args.words.now c.loop-f.words c.write_part.new.words c.args.steps.now.items c.loop-f.steps.items c.write_part.new.steps.items c.loop-f.invariant.well c.in_ok-at.ensures.well;
      bounds = few-then (packed_parts (field_outlines (take c.args.limit (declared_in c.args.t.now).layouts) (list_fields (take c.loop-f.f-index c.args.fs.now))) (symbols_of (view c.args.s.now))) (packed_fields (field_outline (take c.args.limit (declared_in c.args.t.now).layouts) (field_tree c.f-item.result.1)) (symbol_named c.f-item.result.0 (symbols_of (view c.args.s.now))))
          (packed_parts (field_outlines (take c.args.limit (declared_in c.args.t.now).layouts) (list_fields (take (c.loop-f.f-index + 1) c.args.fs.now))) (symbols_of (view c.args.s.now)))
          (view c.args.s.now) c.args.steps.now.items c.loop-f.steps.items c.write_part.new.steps.items c.args.words.now c.loop-f.words c.write_part.new.words c.args.first c.loop-f.at c.in_ok-at.at c.loop-f.invariant.bounds c.in_ok-at.ensures.bounds
          (parts-more (take c.args.limit (declared_in c.args.t.now).layouts) c.args.fs.now c.loop-f.f-index c.f-item.result (symbols_of (view c.args.s.now)) c.loop-f-test.true c.f-item.is);
    }

pub write_parts-returns-clause-writes : goal.write_parts-returns-clause-writes
write_parts-returns-clause-writes t c =
    subst (λ (l : List FieldItem). Writes (AllNamedSound (field_outlines (take c.args.limit (declared_in c.args.t.now).layouts) (list_fields c.args.fs.now))) c.args.next.now c.loop-f.next (view c.args.s.now) c.args.steps.now.items c.loop-f.steps.items c.args.words.now c.loop-f.words c.args.first (λ v. parts_bits (field_outlines (take c.args.limit (declared_in c.args.t.now).layouts) (list_fields l)) (fields_of v)))
    (take_all c.loop-f.f-index c.args.fs.now (omega arith)) c.loop-f.invariant.writes

pub write_parts-returns-clause-behind : goal.write_parts-returns-clause-behind
write_parts-returns-clause-behind t c =
    λ env. c.loop-f.invariant.behind env ∙ ap (λ l. c.args.first + length (parts_bits (field_outlines (take c.args.limit (declared_in c.args.t.now).layouts) (list_fields l)) (fields_of (value_in env (view c.args.s.now))))) (take_all c.loop-f.f-index c.args.fs.now (omega arith))

pub write_part-returns-in-Some-clause-writes : goal.write_part-returns-in-Some-clause-writes
write_part-returns-in-Some-clause-writes t c =
    IfOk-weaker c.write_field.result _ _
    (λ i m. part-writes (IsSound (field_outline (take c.args.limit (declared_in c.args.t.now).layouts) (field_tree c.args.f.now.1))) (IsSound (field_outline (take c.args.limit (declared_in c.args.t.now).layouts) (field_tree c.args.f.now.1))) c.args.next.now c.write_field.new.next c.args.f.now.0 (view c.in-Some.p.now) (view c.args.s.now) c.args.steps.now.items c.write_field.new.steps.items c.args.words.now c.write_field.new.words c.args.at (λ v. bits_of (field_outline (take c.args.limit (declared_in c.args.t.now).layouts) (field_tree c.args.f.now.1)) v) (λ v. bits_of (field_outline (take c.args.limit (declared_in c.args.t.now).layouts) (field_tree c.args.f.now.1)) (field_named c.args.f.now.0 (fields_of v)))
    m (λ q. q) c.in-Some.ensures.1 (λ env. refl))
    c.write_field.ensures.writes

pub write_part-returns-in-Some-clause-behind : goal.write_part-returns-in-Some-clause-behind
write_part-returns-in-Some-clause-behind t c =
    IfOk-weaker c.write_field.result _ _
    (λ i h env. h env ∙ ap (λ (r : Symbol). c.args.at + length (bits_of (field_outline (take c.args.limit (declared_in c.args.t.now).layouts) (field_tree c.args.f.now.1)) (value_in env r))) (sym c.in-Some.ensures.1) ∙ ap (λ v. c.args.at + length (bits_of (field_outline (take c.args.limit (declared_in c.args.t.now).layouts) (field_tree c.args.f.now.1)) v)) (field-value env c.args.f.now.0 (view c.args.s.now)))
    c.write_field.ensures.behind

pub write_part-returns-in-None-clause-writes : goal.write_part-returns-in-None-clause-writes
write_part-returns-in-None-clause-writes t c =
    IfOk-weaker c.write_field-in-None.result _ _
    (λ i m. part-writes (IsSound (field_outline (take c.args.limit (declared_in c.args.t.now).layouts) (field_tree c.args.f.now.1))) (IsSound (field_outline (take c.args.limit (declared_in c.args.t.now).layouts) (field_tree c.args.f.now.1))) c.args.next.now c.write_field-in-None.new.next c.args.f.now.0 (Word (Lit 0)) (view c.args.s.now) c.args.steps.now.items c.write_field-in-None.new.steps.items c.args.words.now c.write_field-in-None.new.words c.args.at (λ v. bits_of (field_outline (take c.args.limit (declared_in c.args.t.now).layouts) (field_tree c.args.f.now.1)) v) (λ v. bits_of (field_outline (take c.args.limit (declared_in c.args.t.now).layouts) (field_tree c.args.f.now.1)) (field_named c.args.f.now.0 (fields_of v)))
    m (λ q. q) c.in-None.ensures.1 (λ env. refl))
    c.write_field-in-None.ensures.writes

pub write_part-returns-in-None-clause-behind : goal.write_part-returns-in-None-clause-behind
write_part-returns-in-None-clause-behind t c =
    IfOk-weaker c.write_field-in-None.result _ _
    (λ i h env. h env ∙ ap (λ (r : Symbol). c.args.at + length (bits_of (field_outline (take c.args.limit (declared_in c.args.t.now).layouts) (field_tree c.args.f.now.1)) (value_in env r))) (sym c.in-None.ensures.1) ∙ ap (λ v. c.args.at + length (bits_of (field_outline (take c.args.limit (declared_in c.args.t.now).layouts) (field_tree c.args.f.now.1)) v)) (field-value env c.args.f.now.0 (view c.args.s.now)))
    c.write_field-in-None.ensures.behind

pub write_chosen-returns-in-Some-clause-writes : goal.write_chosen-returns-in-Some-clause-writes
write_chosen-returns-in-Some-clause-writes t c =
    IfOk-weaker c.write_field.result _ _
    (λ i m. subst (λ (n : ℕ). Writes (AllNamedSound (field_outlines (take c.args.limit (declared_in c.args.t.now).layouts) (list_fields c.args.fs.now))) n c.write_field.new.next (view c.args.s.now) c.args.steps.now.items c.write_field.new.steps.items c.args.words.now c.write_field.new.words c.args.at (λ v. chosen_bits (field_outlines (take c.args.limit (declared_in c.args.t.now).layouts) (list_fields c.args.fs.now)) (fields_of v))) c.loop-f.invariant.next
    (subst (λ (ss : List Step). Writes (AllNamedSound (field_outlines (take c.args.limit (declared_in c.args.t.now).layouts) (list_fields c.args.fs.now))) c.loop-f.next c.write_field.new.next (view c.args.s.now) ss c.write_field.new.steps.items c.args.words.now c.write_field.new.words c.args.at (λ v. chosen_bits (field_outlines (take c.args.limit (declared_in c.args.t.now).layouts) (list_fields c.args.fs.now)) (fields_of v))) c.loop-f.invariant.steps
    (subst (λ (as' : List Atom). Writes (AllNamedSound (field_outlines (take c.args.limit (declared_in c.args.t.now).layouts) (list_fields c.args.fs.now))) c.loop-f.next c.write_field.new.next (view c.args.s.now) c.loop-f.steps.items c.write_field.new.steps.items as' c.write_field.new.words c.args.at (λ v. chosen_bits (field_outlines (take c.args.limit (declared_in c.args.t.now).layouts) (list_fields c.args.fs.now)) (fields_of v))) c.loop-f.invariant.words
    (part-writes (IsSound (field_outline (take c.args.limit (declared_in c.args.t.now).layouts) (field_tree c.f-item.result.1))) (AllNamedSound (field_outlines (take c.args.limit (declared_in c.args.t.now).layouts) (list_fields c.args.fs.now))) c.loop-f.next c.write_field.new.next c.f-item.result.0 (view c.in-Some.p.now) (view c.args.s.now) c.loop-f.steps.items c.write_field.new.steps.items c.loop-f.words c.write_field.new.words c.args.at (λ v. bits_of (field_outline (take c.args.limit (declared_in c.args.t.now).layouts) (field_tree c.f-item.result.1)) v) (λ v. chosen_bits (field_outlines (take c.args.limit (declared_in c.args.t.now).layouts) (list_fields c.args.fs.now)) (fields_of v))
    m (λ q. sound-named (take c.args.limit (declared_in c.args.t.now).layouts) c.args.fs.now c.loop-f.f-index c.f-item.result c.loop-f-test.true c.f-item.is q) c.in-Some.ensures.1 (λ env. sym (sym (c.loop-f.invariant.bits env) ∙ chosen-turn (take c.args.limit (declared_in c.args.t.now).layouts) c.args.fs.now c.loop-f.f-index c.f-item.result (fields_of (value_in env (view c.args.s.now))) c.loop-f-test.true c.f-item.is ∙ if-true _ _ _ (part-there env c.f-item.result.0 (view c.args.s.now) ∙ c.in-Some.ensures.0)))))))
    c.write_field.ensures.writes

pub write_chosen-returns-in-Some-clause-behind : goal.write_chosen-returns-in-Some-clause-behind
write_chosen-returns-in-Some-clause-behind t c =
    IfOk-weaker c.write_field.result _ _
    (λ i h env. h env ∙ ap (λ (r : Symbol). c.args.at + length (bits_of (field_outline (take c.args.limit (declared_in c.args.t.now).layouts) (field_tree c.f-item.result.1)) (value_in env r))) (sym c.in-Some.ensures.1) ∙ ap (λ v. c.args.at + length (bits_of (field_outline (take c.args.limit (declared_in c.args.t.now).layouts) (field_tree c.f-item.result.1)) v)) (field-value env c.f-item.result.0 (view c.args.s.now)) ∙ ap (λ l. c.args.at + length l) (sym (sym (c.loop-f.invariant.bits env) ∙ chosen-turn (take c.args.limit (declared_in c.args.t.now).layouts) c.args.fs.now c.loop-f.f-index c.f-item.result (fields_of (value_in env (view c.args.s.now))) c.loop-f-test.true c.f-item.is ∙ if-true _ _ _ (part-there env c.f-item.result.0 (view c.args.s.now) ∙ c.in-Some.ensures.0))))
    c.write_field.ensures.behind

pub write_chosen-loop-f-init : goal.write_chosen-loop-f-init
write_chosen-loop-f-init t c =
    record { bits = λ env. refl; words = refl; steps = refl; next = refl; fields = refl }

pub write_chosen-loop-f-preserved : goal.write_chosen-loop-f-preserved
write_chosen-loop-f-preserved t c =
    record {
      bits = λ env. sym (chosen-turn (take c.args.limit (declared_in c.args.t.now).layouts) c.args.fs.now c.loop-f.f-index c.f-item.result (fields_of (value_in env (view c.args.s.now))) c.loop-f-test.true c.f-item.is ∙ if-false _ _ _ (part-there env c.f-item.result.0 (view c.args.s.now) ∙ c.in-None.ensures.0)) ∙ c.loop-f.invariant.bits env;
      words = c.loop-f.invariant.words;
      steps = c.loop-f.invariant.steps;
      next = c.loop-f.invariant.next;
      fields = sym (chosen-fields (take c.args.limit (declared_in c.args.t.now).layouts) c.args.fs.now c.loop-f.f-index c.f-item.result (symbols_of (view c.args.s.now)) c.loop-f-test.true c.f-item.is ∙ if-false _ _ _ c.in-None.ensures.0) ∙ c.loop-f.invariant.fields;
    }

pub write_chosen-returns-clause-writes : goal.write_chosen-returns-clause-writes
write_chosen-returns-clause-writes t c =
    let long = ap length c.loop-f.invariant.words in
    subst (λ (n : ℕ). Writes (AllNamedSound (field_outlines (take c.args.limit (declared_in c.args.t.now).layouts) (list_fields c.args.fs.now))) n c.loop-f.next (view c.args.s.now) c.args.steps.now.items c.loop-f.steps.items c.args.words.now c.loop-f.words c.args.at (λ v. chosen_bits (field_outlines (take c.args.limit (declared_in c.args.t.now).layouts) (list_fields c.args.fs.now)) (fields_of v))) c.loop-f.invariant.next
    (subst (λ (ss : List Step). Writes (AllNamedSound (field_outlines (take c.args.limit (declared_in c.args.t.now).layouts) (list_fields c.args.fs.now))) c.loop-f.next c.loop-f.next (view c.args.s.now) ss c.loop-f.steps.items c.args.words.now c.loop-f.words c.args.at (λ v. chosen_bits (field_outlines (take c.args.limit (declared_in c.args.t.now).layouts) (list_fields c.args.fs.now)) (fields_of v))) c.loop-f.invariant.steps
    (subst (λ (as' : List Atom). Writes (AllNamedSound (field_outlines (take c.args.limit (declared_in c.args.t.now).layouts) (list_fields c.args.fs.now))) c.loop-f.next c.loop-f.next (view c.args.s.now) c.loop-f.steps.items c.loop-f.steps.items as' c.loop-f.words c.args.at (λ v. chosen_bits (field_outlines (take c.args.limit (declared_in c.args.t.now).layouts) (list_fields c.args.fs.now)) (fields_of v))) c.loop-f.invariant.words
    (writes-of (AllNamedSound (field_outlines (take c.args.limit (declared_in c.args.t.now).layouts) (list_fields c.args.fs.now))) (AllNamedSound (field_outlines (take c.args.limit (declared_in c.args.t.now).layouts) (list_fields c.args.fs.now))) c.loop-f.next c.loop-f.next (view c.args.s.now) (view c.args.s.now) c.loop-f.steps.items c.loop-f.steps.items c.loop-f.words c.loop-f.words c.args.at (λ v. []) (λ v. chosen_bits (field_outlines (take c.args.limit (declared_in c.args.t.now).layouts) (list_fields c.args.fs.now)) (fields_of v))
    (writes-none (AllNamedSound (field_outlines (take c.args.limit (declared_in c.args.t.now).layouts) (list_fields c.args.fs.now))) c.loop-f.next (view c.args.s.now) c.loop-f.steps.items c.loop-f.words c.args.at 0 (λ v. []) (omega (arith, c.requires.inside)) (λ v. refl)) (λ q. q) (λ o. o) (λ env g. g) (λ env. sym (sym (c.loop-f.invariant.bits env) ∙ ap (λ l. chosen_bits (field_outlines (take c.args.limit (declared_in c.args.t.now).layouts) (list_fields l)) (fields_of (value_in env (view c.args.s.now)))) (drop_all c.loop-f.f-index c.args.fs.now (omega arith)))))))

pub write_chosen-returns-clause-behind : goal.write_chosen-returns-clause-behind
write_chosen-returns-clause-behind t c =
    λ env. (let e = ap length (sym (c.loop-f.invariant.bits env) ∙ ap (λ l. chosen_bits (field_outlines (take c.args.limit (declared_in c.args.t.now).layouts) (list_fields l)) (fields_of (value_in env (view c.args.s.now)))) (drop_all c.loop-f.f-index c.args.fs.now (omega arith))) in omega arith)

pub write_field-write_bits-requires : goal.write_field-write_bits-requires
write_field-write_bits-requires t c =
    record { inside = subst (λ (o : OutlineTree). c.args.at + size o ≤ 32 * length c.args.words.now) (ap (λ k. field_outline (take c.args.limit (declared_in c.args.t.now).layouts) (field_tree k)) c.in-Bits.is) c.requires.inside; few = c.requires.few }

pub write_field-overflow_add-result : goal.write_field-overflow_add-result
write_field-overflow_add-result t c =
    let s = ap size (ap (λ k. field_outline (take c.args.limit (declared_in c.args.t.now).layouts) (field_tree k)) c.in-Bits.is) in
    omega (arith, c.requires.inside, c.requires.few)

pub write_field-returns-in_ok-write_bits-in-Bits-clause-writes : goal.write_field-returns-in_ok-write_bits-in-Bits-clause-writes
write_field-returns-in_ok-write_bits-in-Bits-clause-writes t c =
    subst (λ (o : OutlineTree). Writes (IsSound o) c.args.next.now c.write_bits.new.next (view c.args.s.now) c.args.steps.now.items c.write_bits.new.steps.items c.args.words.now c.write_bits.new.words c.args.at (λ v. bits_of o v)) (sym (ap (λ k. field_outline (take c.args.limit (declared_in c.args.t.now).layouts) (field_tree k)) c.in-Bits.is))
    (writes-of ((1 ≤ c.in-Bits.n) × (c.in-Bits.n ≤ 32)) (IsSound (BitsOutline c.in-Bits.n)) c.args.next.now c.write_bits.new.next (Word (word_operand (view c.args.s.now))) (view c.args.s.now) c.args.steps.now.items c.write_bits.new.steps.items c.args.words.now c.write_bits.new.words c.args.at (λ v. bits c.in-Bits.n (word_of v)) (λ v. bits_of (BitsOutline c.in-Bits.n) v)
    (subst (λ (a : Atom). Writes ((1 ≤ c.in-Bits.n) × (c.in-Bits.n ≤ 32)) c.args.next.now c.write_bits.new.next (Word a) c.args.steps.now.items c.write_bits.new.steps.items c.args.words.now c.write_bits.new.words c.args.at (λ v. bits c.in-Bits.n (word_of v))) c.word_in.ensures c.in_ok-write_bits-in-Bits.ensures.writes)
    (λ q. q) (λ o. word-older c.args.next.now (view c.args.s.now) o) (λ env h. word-fits env (view c.args.s.now) h) (λ env. ap (bits c.in-Bits.n) (word-value env (view c.args.s.now))))

pub write_field-returns-in_ok-write_bits-in-Bits-clause-behind : goal.write_field-returns-in_ok-write_bits-in-Bits-clause-behind
write_field-returns-in_ok-write_bits-in-Bits-clause-behind t c =
    λ env. (let e = ap (λ o. length (bits_of o (value_in env (view c.args.s.now)))) (ap (λ k. field_outline (take c.args.limit (declared_in c.args.t.now).layouts) (field_tree k)) c.in-Bits.is) ∙ length-bits c.in-Bits.n (word_of (value_in env (view c.args.s.now))) in omega arith)

pub write_field-returns-in-Inner-clause-writes : goal.write_field-returns-in-Inner-clause-writes
write_field-returns-in-Inner-clause-writes t c =
    subst (λ (o : OutlineTree). OnOk c.write_layout.result (Writes (IsSound o) c.args.next.now c.write_layout.new.next (view c.args.s.now) c.args.steps.now.items c.write_layout.new.steps.items c.args.words.now c.write_layout.new.words c.args.at (λ v. bits_of o v))) (sym (ap (λ k. field_outline (take c.args.limit (declared_in c.args.t.now).layouts) (field_tree k)) c.in-Inner.is)) c.write_layout.ensures.writes

pub write_field-returns-in-Inner-clause-behind : goal.write_field-returns-in-Inner-clause-behind
write_field-returns-in-Inner-clause-behind t c =
    subst (λ (o : OutlineTree). IfOk c.write_layout.result (λ i. (env : Env) → i ≡ c.args.at + length (bits_of o (value_in env (view c.args.s.now))))) (sym (ap (λ k. field_outline (take c.args.limit (declared_in c.args.t.now).layouts) (field_tree k)) c.in-Inner.is)) c.write_layout.ensures.behind

pub write_field-returns-in-Overlay-clause-writes : goal.write_field-returns-in-Overlay-clause-writes
write_field-returns-in-Overlay-clause-writes t c =
    IfOk-weaker c.write_chosen.result _ _
    (λ i m. subst (λ (o : OutlineTree). Writes (IsSound o) c.args.next.now c.write_chosen.new.next (view c.args.s.now) c.args.steps.now.items c.write_chosen.new.steps.items c.args.words.now c.write_chosen.new.words c.args.at (λ v. bits_of o v)) (sym (ap (field_outline (take c.args.limit (declared_in c.args.t.now).layouts)) (overlay_is c.args.f.now c.in-Overlay.fs c.in-Overlay.is) ∙ ap (λ k. OverlayOutline (field_outlines (take c.args.limit (declared_in c.args.t.now).layouts) (list_fields k))) (sym c.deref.ensures.value)))
    (writes-of (AllNamedSound (field_outlines (take c.args.limit (declared_in c.args.t.now).layouts) (list_fields c.deref.result.now))) (IsSound (OverlayOutline (field_outlines (take c.args.limit (declared_in c.args.t.now).layouts) (list_fields c.deref.result.now)))) c.args.next.now c.write_chosen.new.next (view c.args.s.now) (view c.args.s.now) c.args.steps.now.items c.write_chosen.new.steps.items c.args.words.now c.write_chosen.new.words c.args.at (λ v. chosen_bits (field_outlines (take c.args.limit (declared_in c.args.t.now).layouts) (list_fields c.deref.result.now)) (fields_of v)) (λ v. bits_of (OverlayOutline (field_outlines (take c.args.limit (declared_in c.args.t.now).layouts) (list_fields c.deref.result.now))) v) m (λ q. q.0) (λ o. o) (λ env g. g) (λ env. refl)))
    c.write_chosen.ensures.writes

pub write_field-returns-in-Overlay-clause-behind : goal.write_field-returns-in-Overlay-clause-behind
write_field-returns-in-Overlay-clause-behind t c =
    subst (λ (o : OutlineTree). IfOk c.write_chosen.result (λ i. (env : Env) → i ≡ c.args.at + length (bits_of o (value_in env (view c.args.s.now))))) (sym (ap (field_outline (take c.args.limit (declared_in c.args.t.now).layouts)) (overlay_is c.args.f.now c.in-Overlay.fs c.in-Overlay.is) ∙ ap (λ k. OverlayOutline (field_outlines (take c.args.limit (declared_in c.args.t.now).layouts) (list_fields k))) (sym c.deref.ensures.value))) c.write_chosen.ensures.behind

pub write_layout-returns-in-None-clause-well : goal.write_layout-returns-in-None-clause-well
write_layout-returns-in-None-clause-well t c = words-none c.args.next.now (view c.args.s.now) c.args.steps.now.items c.args.words.now

pub write_layout-returns-in-Gap-clause-well : goal.write_layout-returns-in-Gap-clause-well
write_layout-returns-in-Gap-clause-well t c = words-none c.args.next.now (view c.args.s.now) c.args.steps.now.items c.args.words.now

pub write_part-returns-in-Some-clause-well : goal.write_part-returns-in-Some-clause-well
write_part-returns-in-Some-clause-well t c =
    IfOk-weaker c.write_field.result _ _
    (λ i m. words-of-part c.args.next.now c.write_field.new.next (view c.args.s.now) (view c.in-Some.p.now) c.args.f.now.0 c.args.steps.now.items c.write_field.new.steps.items c.args.words.now c.write_field.new.words c.in-Some.ensures.1 m)
    c.write_field.ensures.well

pub write_part-returns-in-None-clause-well : goal.write_part-returns-in-None-clause-well
write_part-returns-in-None-clause-well t c =
    IfOk-weaker c.write_field-in-None.result _ _
    (λ i m. words-of-zero c.args.next.now c.write_field-in-None.new.next (view c.args.s.now) _ c.args.steps.now.items c.write_field-in-None.new.steps.items c.args.words.now c.write_field-in-None.new.words refl m)
    c.write_field-in-None.ensures.well

pub write_chosen-returns-in-Some-clause-well : goal.write_chosen-returns-in-Some-clause-well
write_chosen-returns-in-Some-clause-well t c =
    IfOk-weaker c.write_field.result _ _
    (λ i m. words-from c.loop-f.next c.args.next.now c.write_field.new.next (view c.args.s.now) c.loop-f.steps.items c.args.steps.now.items c.write_field.new.steps.items c.loop-f.words c.args.words.now c.write_field.new.words c.loop-f.invariant.next c.loop-f.invariant.steps c.loop-f.invariant.words
    (words-of-part c.loop-f.next c.write_field.new.next (view c.args.s.now) (view c.in-Some.p.now) c.f-item.result.0 c.loop-f.steps.items c.write_field.new.steps.items c.loop-f.words c.write_field.new.words c.in-Some.ensures.1 m))
    c.write_field.ensures.well

pub write_chosen-returns-clause-well : goal.write_chosen-returns-clause-well
write_chosen-returns-clause-well t c =
    words-from c.loop-f.next c.args.next.now c.loop-f.next (view c.args.s.now) c.loop-f.steps.items c.args.steps.now.items c.loop-f.steps.items c.loop-f.words c.args.words.now c.loop-f.words c.loop-f.invariant.next c.loop-f.invariant.steps c.loop-f.invariant.words
    (words-none c.loop-f.next (view c.args.s.now) c.loop-f.steps.items c.loop-f.words)

pub write_field-returns-in_ok-write_bits-in-Bits-clause-well : goal.write_field-returns-in_ok-write_bits-in-Bits-clause-well
write_field-returns-in_ok-write_bits-in-Bits-clause-well t c =
    words-of-word c.args.next.now c.write_bits.new.next (view c.args.s.now) c.word_in.result c.args.steps.now.items c.write_bits.new.steps.items c.args.words.now c.write_bits.new.words c.word_in.ensures c.in_ok-write_bits-in-Bits.ensures.well

-- ---- how many and how narrow the steps are

pub write_layout-returns-in-Some-clause-bounds : goal.write_layout-returns-in-Some-clause-bounds
write_layout-returns-in-Some-clause-bounds t c =
    subst (λ (o : OutlineTree). IfOk c.write_layout.result (λ i. WritesFew (packed_layout o (view c.args.s.now)) (view c.args.s.now) c.args.steps.now.items c.write_layout.new.steps.items c.args.words.now c.write_layout.new.words c.args.at i)) (sym (ap (λ k. outline (take c.args.limit (declared_in c.args.t.now).layouts) (layout_tree k)) c.in-Named.is ∙ c.in-Some.ensures.outline)) c.write_layout.ensures.bounds

pub write_layout-returns-in-None-clause-bounds : goal.write_layout-returns-in-None-clause-bounds
write_layout-returns-in-None-clause-bounds t c =
    few-none (packed_layout (outline (take c.args.limit (declared_in c.args.t.now).layouts) (layout_tree c.args.l.now)) (view c.args.s.now)) (view c.args.s.now) c.args.steps.now.items c.args.words.now c.args.at _ (omega arith)

pub write_layout-returns-in-Gap-clause-bounds : goal.write_layout-returns-in-Gap-clause-bounds
write_layout-returns-in-Gap-clause-bounds t c =
    few-none (packed_layout (outline (take c.args.limit (declared_in c.args.t.now).layouts) (layout_tree c.args.l.now)) (view c.args.s.now)) (view c.args.s.now) c.args.steps.now.items c.args.words.now c.args.at _ (omega arith)

pub write_layout-returns-in-Parts-clause-bounds : goal.write_layout-returns-in-Parts-clause-bounds
write_layout-returns-in-Parts-clause-bounds t c =
    subst (λ (o : OutlineTree). IfOk c.write_parts.result (λ i. WritesFew (packed_layout o (view c.args.s.now)) (view c.args.s.now) c.args.steps.now.items c.write_parts.new.steps.items c.args.words.now c.write_parts.new.words c.args.at i)) (sym (ap (outline (take c.args.limit (declared_in c.args.t.now).layouts)) (parts_is c.args.l.now c.in-Parts.fs c.in-Parts.is) ∙ ap (λ k. PartsOutline (field_outlines (take c.args.limit (declared_in c.args.t.now).layouts) (list_fields k))) (sym c.deref.ensures.value))) c.write_parts.ensures.bounds

pub write_layout-returns-in-Joined-clause-bounds : goal.write_layout-returns-in-Joined-clause-bounds
write_layout-returns-in-Joined-clause-bounds t c =
    subst (λ (o : OutlineTree). IfOk c.write_joined.result (λ i. WritesFew (packed_layout o (view c.args.s.now)) (view c.args.s.now) c.args.steps.now.items c.write_joined.new.steps.items c.args.words.now c.write_joined.new.words c.args.at i)) (sym (ap (outline (take c.args.limit (declared_in c.args.t.now).layouts)) (joined_is c.args.l.now c.in-Joined.ls c.in-Joined.is) ∙ ap (λ k. JoinedOutline (outlines (take c.args.limit (declared_in c.args.t.now).layouts) (list_layouts k))) (sym c.deref-in-Joined.ensures.value))) c.write_joined.ensures.bounds

pub write_joined-returns-clause-bounds : goal.write_joined-returns-clause-bounds
write_joined-returns-clause-bounds t c =
    subst (λ (l : List LayoutText). WritesFew (packed_joined (outlines (take c.args.limit (declared_in c.args.t.now).layouts) (list_layouts l)) (view c.args.s.now)) (view c.args.s.now) c.args.steps.now.items c.loop-l.steps.items c.args.words.now c.loop-l.words c.args.first c.loop-l.at)
    (take_all c.loop-l.l-index c.args.ls.now (omega arith)) c.loop-l.invariant.bounds

pub write_parts-returns-clause-bounds : goal.write_parts-returns-clause-bounds
write_parts-returns-clause-bounds t c =
    subst (λ (l : List FieldItem). WritesFew (packed_parts (field_outlines (take c.args.limit (declared_in c.args.t.now).layouts) (list_fields l)) (symbols_of (view c.args.s.now))) (view c.args.s.now) c.args.steps.now.items c.loop-f.steps.items c.args.words.now c.loop-f.words c.args.first c.loop-f.at)
    (take_all c.loop-f.f-index c.args.fs.now (omega arith)) c.loop-f.invariant.bounds

pub write_part-returns-in-Some-clause-bounds : goal.write_part-returns-in-Some-clause-bounds
write_part-returns-in-Some-clause-bounds t c =
    let e = ap (packed_fields (field_outline (take c.args.limit (declared_in c.args.t.now).layouts) (field_tree c.args.f.now.1))) c.in-Some.ensures.1 in
    IfOk-weaker c.write_field.result _ _
    (λ i m. few-part (packed_fields (field_outline (take c.args.limit (declared_in c.args.t.now).layouts) (field_tree c.args.f.now.1)) (view c.in-Some.p.now)) (packed_fields (field_outline (take c.args.limit (declared_in c.args.t.now).layouts) (field_tree c.args.f.now.1)) (symbol_named c.args.f.now.0 (symbols_of (view c.args.s.now)))) c.args.f.now.0 (view c.in-Some.p.now) (view c.args.s.now) c.args.steps.now.items c.write_field.new.steps.items c.args.words.now c.write_field.new.words c.args.at i c.in-Some.ensures.1 m (omega arith))
    c.write_field.ensures.bounds

pub write_part-returns-in-None-clause-bounds : goal.write_part-returns-in-None-clause-bounds
write_part-returns-in-None-clause-bounds t c =
    let e = ap (packed_fields (field_outline (take c.args.limit (declared_in c.args.t.now).layouts) (field_tree c.args.f.now.1))) c.in-None.ensures.1 in
    IfOk-weaker c.write_field-in-None.result _ _
    (λ i m. few-zero (packed_fields (field_outline (take c.args.limit (declared_in c.args.t.now).layouts) (field_tree c.args.f.now.1)) (Word (Lit 0))) (packed_fields (field_outline (take c.args.limit (declared_in c.args.t.now).layouts) (field_tree c.args.f.now.1)) (symbol_named c.args.f.now.0 (symbols_of (view c.args.s.now)))) (Word (Lit 0)) (view c.args.s.now) c.args.steps.now.items c.write_field-in-None.new.steps.items c.args.words.now c.write_field-in-None.new.words c.args.at i refl m (omega arith))
    c.write_field-in-None.ensures.bounds

pub write_chosen-returns-in-Some-clause-bounds : goal.write_chosen-returns-in-Some-clause-bounds
write_chosen-returns-in-Some-clause-bounds t c =
    let e : (packed_chosen (field_outlines (take c.args.limit (declared_in c.args.t.now).layouts) (list_fields c.args.fs.now)) (symbols_of (view c.args.s.now))) ≡ packed_fields (field_outline (take c.args.limit (declared_in c.args.t.now).layouts) (field_tree c.f-item.result.1)) (view c.in-Some.p.now) =
    sym c.loop-f.invariant.fields ∙ chosen-fields (take c.args.limit (declared_in c.args.t.now).layouts) c.args.fs.now c.loop-f.f-index c.f-item.result (symbols_of (view c.args.s.now)) c.loop-f-test.true c.f-item.is ∙ if-true _ _ _ c.in-Some.ensures.0 ∙ ap (packed_fields (field_outline (take c.args.limit (declared_in c.args.t.now).layouts) (field_tree c.f-item.result.1))) c.in-Some.ensures.1 in
    IfOk-weaker c.write_field.result _ _
    (λ i m. few-from (packed_chosen (field_outlines (take c.args.limit (declared_in c.args.t.now).layouts) (list_fields c.args.fs.now)) (symbols_of (view c.args.s.now))) (view c.args.s.now) c.loop-f.steps.items c.args.steps.now.items c.write_field.new.steps.items c.loop-f.words c.args.words.now c.write_field.new.words c.args.at i c.loop-f.invariant.steps c.loop-f.invariant.words
    (few-part (packed_fields (field_outline (take c.args.limit (declared_in c.args.t.now).layouts) (field_tree c.f-item.result.1)) (view c.in-Some.p.now)) (packed_chosen (field_outlines (take c.args.limit (declared_in c.args.t.now).layouts) (list_fields c.args.fs.now)) (symbols_of (view c.args.s.now))) c.f-item.result.0 (view c.in-Some.p.now) (view c.args.s.now) c.loop-f.steps.items c.write_field.new.steps.items c.loop-f.words c.write_field.new.words c.args.at i c.in-Some.ensures.1 m (omega arith)))
    c.write_field.ensures.bounds

pub write_chosen-returns-clause-bounds : goal.write_chosen-returns-clause-bounds
write_chosen-returns-clause-bounds t c =
    few-from (packed_chosen (field_outlines (take c.args.limit (declared_in c.args.t.now).layouts) (list_fields c.args.fs.now)) (symbols_of (view c.args.s.now))) (view c.args.s.now) c.loop-f.steps.items c.args.steps.now.items c.loop-f.steps.items c.loop-f.words c.args.words.now c.loop-f.words c.args.at c.args.at c.loop-f.invariant.steps c.loop-f.invariant.words
    (few-none (packed_chosen (field_outlines (take c.args.limit (declared_in c.args.t.now).layouts) (list_fields c.args.fs.now)) (symbols_of (view c.args.s.now))) (view c.args.s.now) c.loop-f.steps.items c.loop-f.words c.args.at c.args.at (omega arith))

pub write_field-returns-in_ok-write_bits-in-Bits-clause-bounds : goal.write_field-returns-in_ok-write_bits-in-Bits-clause-bounds
write_field-returns-in_ok-write_bits-in-Bits-clause-bounds t c =
    let e : (packed_fields (field_outline (take c.args.limit (declared_in c.args.t.now).layouts) (field_tree c.args.f.now)) (view c.args.s.now)) ≡ 1 = ap (λ k. packed_fields (field_outline (take c.args.limit (declared_in c.args.t.now).layouts) (field_tree k)) (view c.args.s.now)) c.in-Bits.is in
    few-at-most 1 (packed_fields (field_outline (take c.args.limit (declared_in c.args.t.now).layouts) (field_tree c.args.f.now)) (view c.args.s.now)) (view c.args.s.now) c.args.steps.now.items c.write_bits.new.steps.items c.args.words.now c.write_bits.new.words c.args.at _
    (few-word c.word_in.result (view c.args.s.now) c.args.steps.now.items c.write_bits.new.steps.items c.args.words.now c.write_bits.new.words c.args.at _ c.word_in.ensures c.in_ok-write_bits-in-Bits.ensures.bounds) (omega arith)

pub write_field-returns-in-Inner-clause-bounds : goal.write_field-returns-in-Inner-clause-bounds
write_field-returns-in-Inner-clause-bounds t c =
    subst (λ (o : OutlineTree). IfOk c.write_layout.result (λ i. WritesFew (packed_fields o (view c.args.s.now)) (view c.args.s.now) c.args.steps.now.items c.write_layout.new.steps.items c.args.words.now c.write_layout.new.words c.args.at i)) (sym (ap (λ k. field_outline (take c.args.limit (declared_in c.args.t.now).layouts) (field_tree k)) c.in-Inner.is))
    (IfOk-weaker c.write_layout.result _ _
    (λ i m. few-at-most (packed_layout (outline (take c.args.limit (declared_in c.args.t.now).layouts) (layout_tree c.in-Inner.l)) (view c.args.s.now)) (packed_fields (outline (take c.args.limit (declared_in c.args.t.now).layouts) (layout_tree c.in-Inner.l)) (view c.args.s.now)) (view c.args.s.now) c.args.steps.now.items c.write_layout.new.steps.items c.args.words.now c.write_layout.new.words c.args.at i m (layout-fields (outline (take c.args.limit (declared_in c.args.t.now).layouts) (layout_tree c.in-Inner.l)) (view c.args.s.now)))
    c.write_layout.ensures.bounds)

pub write_field-returns-in-Overlay-clause-bounds : goal.write_field-returns-in-Overlay-clause-bounds
write_field-returns-in-Overlay-clause-bounds t c =
    subst (λ (o : OutlineTree). IfOk c.write_chosen.result (λ i. WritesFew (packed_fields o (view c.args.s.now)) (view c.args.s.now) c.args.steps.now.items c.write_chosen.new.steps.items c.args.words.now c.write_chosen.new.words c.args.at i)) (sym (ap (field_outline (take c.args.limit (declared_in c.args.t.now).layouts)) (overlay_is c.args.f.now c.in-Overlay.fs c.in-Overlay.is) ∙ ap (λ k. OverlayOutline (field_outlines (take c.args.limit (declared_in c.args.t.now).layouts) (list_fields k))) (sym c.deref.ensures.value))) c.write_chosen.ensures.bounds
