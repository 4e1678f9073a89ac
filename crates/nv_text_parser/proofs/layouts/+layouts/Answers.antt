use Rattle.std.proofs.Common.{◌≡◌, ◌∷◌, ◌++◌, [], ap, ◌∙◌, arith, length, rules, max, List, ℕ, refl, true}
use Rattle.nv_ast.specs.declared.tree.LayoutText.{LayoutText}
use Rattle.nv_ast.specs.declared.tree.FieldText.{FieldText}
use Rattle.nv_ast.specs.LayoutView.{layout_tree}
use Rattle.nv_ast.specs.Grammar.{one_layout, named_layout, gap_layout, plain_field, bits_field, inner_field}
use Rattle.nv_text_parser.proofs.Lists.{layouts_start, layouts_step, highest_layout_one, highest_layout_push, fields_start, fields_step, highest_field_one, highest_field_push, alternatives_start, alternatives_step}
use Rattle.nv_text_parser.proofs.Rules.{joined_of, not_ended, parts_of, overlay_of}
use Rattle.nv_ast.specs.declared.token.Sort.TheVariants.{Word, Number, Sign}
use Rattle.nv_text_parser.specs.inner.Failing.{read_none, read_next, no_memory, syntax, deep}
use Rattle.nv_text_parser.proofs.Sequence.{carries_anything, one_carries, one_reads, one_then, one_fills, then_reads, then_fails, first_fails, some_fails, some_reads, sign_fails, name_fails, at_reads, at_fails, rule_reads, rule_fails, row_reads, row_fails, behind_reads, behind_fails, none_fails, high_fails, whole_fails, read_many_reads, read_many_fails, item_fails, many_ends, no_item, sign_goes_on, each_result}
use Rattle.nv_text_parser.proofs.LayoutRules.{layout_high, field_fills, alternative_fills, name_rule, gap_rule, fields_listed, colon_fills, parts_rule, parts_carries, parts_fills, inside_completes, inside_starts_none, inside_starts, no_parts, bits_rule, inner_rule, plain_rule, alternatives_listed, alternative_colon_fills, overlay_rule, overlay_carries, overlay_fills, row_fills, bar_fails, alternatives_fail, close_fails, close_reads, starts_overlay, no_overlay, atom_whole, atom_first, atom_frame, atom_reads, layouts_listed, next_layout_fills, joined_rule, atom_completes, join_starts, join_dead}
use Rattle.nv_text_parser.proofs.layouts.+layouts.Goals as goal

pub more_layouts-loop-after-init : goal.more_layouts-loop-after-init
more_layouts-loop-after-init t c =
    let one : c.push.new.self.items ≡ c.args.first ∷ [] = c.in-Ok.ensures.items ∙ ap (λ (z : List LayoutText). z ++ c.args.first ∷ []) c.new-layouts.ensures.items in
    record {
      read = layouts_start _ _ _ one;
      items = read_none;
      measured = omega (arith, c.requires.measured, highest_layout_one _ _ one);
      low = c.requires.low;
      shorter = omega arith;
    }

pub more_layouts-loop-after-preserved : goal.more_layouts-loop-after-preserved
more_layouts-loop-after-preserved t c =
    let m : c.max-highest.result ≡ max c.loop-after.highest c.in-Ok-layout_atom.found.height = search rules in
    record {
      read = layouts_step _ _ _ _ _ _ _ _ _ c.loop-after.invariant.read c.in-Some.ensures c.in-Ok-layout_atom.ensures.read c.in-Ok-push.ensures.items;
      items = read_next c.loop-after.invariant.items (then_reads carries_anything (one_reads (λ x. Sign 30) _ _ tt c.in-Some.ensures) c.in-Ok-layout_atom.ensures.answers);
      measured = omega (arith, m, highest_layout_push _ _ _ c.in-Ok-push.ensures.items, c.loop-after.invariant.measured, c.in-Ok-layout_atom.ensures.measured);
      low = omega (arith, m, c.loop-after.invariant.low, c.in-Ok-layout_atom.ensures.low);
      shorter = omega (arith, c.loop-after.invariant.shorter, c.in-Ok-layout_atom.ensures.shorter, ap length c.in-Some.ensures);
    }

pub more_fields-loop-after-init : goal.more_fields-loop-after-init
more_fields-loop-after-init t c =
    let one : c.push.new.self.items ≡ (c.args.name, c.args.first) ∷ [] = c.in-Ok.ensures.items ∙ ap (λ (z : List (List ℕ × FieldText)). z ++ (c.args.name, c.args.first) ∷ []) c.new-fields.ensures.items in
    record {
      read = fields_start _ _ _ one;
      items = read_none;
      measured = omega (arith, c.requires.measured, highest_field_one _ _ one);
      low = c.requires.low;
      shorter = omega arith;
    }

pub more_fields-loop-after-preserved : goal.more_fields-loop-after-preserved
more_fields-loop-after-preserved t c =
    let m : c.max-highest.result ≡ max c.loop-after.highest c.in-Ok-field.found.height = search rules in
    record {
      read = fields_step _ _ _ _ _ _ _ _ _ _ _ _ _ _ c.loop-after.invariant.read c.in-Some.ensures c.in-Ok-take_name.ensures c.in-Ok-take_sign.ensures c.in-Ok-field.ensures.read c.in-Ok-push.ensures.items;
      items = read_next c.loop-after.invariant.items (then_reads carries_anything (one_reads (λ x. Sign 22) _ _ tt c.in-Some.ensures) (then_reads carries_anything (one_reads Word _ _ _ c.in-Ok-take_name.ensures) (then_reads carries_anything (one_reads (λ x. Sign 21) _ _ tt c.in-Ok-take_sign.ensures) c.in-Ok-field.ensures.answers)));
      measured = omega (arith, m, highest_field_push _ _ _ c.in-Ok-push.ensures.items, c.loop-after.invariant.measured, c.in-Ok-field.ensures.measured);
      low = omega (arith, m, c.loop-after.invariant.low, c.in-Ok-field.ensures.low);
      shorter = omega (arith, c.loop-after.invariant.shorter, c.in-Ok-field.ensures.shorter, ap length c.in-Some.ensures, ap length c.in-Ok-take_name.ensures, ap length c.in-Ok-take_sign.ensures);
    }

pub more_alternatives-loop-after-init : goal.more_alternatives-loop-after-init
more_alternatives-loop-after-init t c =
    let one : c.push.new.self.items ≡ (c.args.name, c.args.first) ∷ [] = c.in-Ok.ensures.items ∙ ap (λ (z : List (List ℕ × FieldText)). z ++ (c.args.name, c.args.first) ∷ []) c.new-alternatives.ensures.items in
    record {
      read = alternatives_start _ _ _ one;
      items = read_none;
      measured = omega (arith, c.requires.measured, highest_field_one _ _ one);
      low = c.requires.low;
      shorter = omega arith;
    }

pub more_alternatives-loop-after-preserved : goal.more_alternatives-loop-after-preserved
more_alternatives-loop-after-preserved t c =
    let m : c.max-highest.result ≡ max c.loop-after.highest c.in-Ok-alternative.found.height = search rules in
    record {
      read = alternatives_step _ _ _ _ _ _ _ _ _ _ _ _ _ _ c.loop-after.invariant.read c.in-Some.ensures c.in-Ok-take_name.ensures c.in-Ok-take_sign.ensures c.in-Ok-alternative.ensures.read c.in-Ok-push.ensures.items;
      items = read_next c.loop-after.invariant.items (then_reads carries_anything (one_reads (λ x. Sign 3) _ _ tt c.in-Some.ensures) (then_reads carries_anything (one_reads Word _ _ _ c.in-Ok-take_name.ensures) (then_reads carries_anything (one_reads (λ x. Sign 21) _ _ tt c.in-Ok-take_sign.ensures) c.in-Ok-alternative.ensures.answers)));
      measured = omega (arith, m, highest_field_push _ _ _ c.in-Ok-push.ensures.items, c.loop-after.invariant.measured, c.in-Ok-alternative.ensures.measured);
      low = omega (arith, m, c.loop-after.invariant.low, c.in-Ok-alternative.ensures.low);
      shorter = omega (arith, c.loop-after.invariant.shorter, c.in-Ok-alternative.ensures.shorter, ap length c.in-Some.ensures, ap length c.in-Ok-take_name.ensures, ap length c.in-Ok-take_sign.ensures);
    }

pub layout-returns-in_default-clause-read : goal.layout-returns-in_default-clause-read
layout-returns-in_default-clause-read t c = one_layout c.in-Ok.ensures.read

pub layout-returns-clause-read : goal.layout-returns-clause-read
layout-returns-clause-read t c =
    rw c.joined_layout.ensures (joined_of c.in-Ok.ensures.read c.in-Ok-more_layouts.ensures.read (not_ended c.in-Some.ensures c.in-Ok-more_layouts.ensures.ends))

pub layout_atom-returns-in_default-clause-read : goal.layout_atom-returns-in_default-clause-read
layout_atom-returns-in_default-clause-read t c = rw c.in-Ok.ensures named_layout

pub layout_atom-returns-in-Some-number_here-clause-read : goal.layout_atom-returns-in-Some-number_here-clause-read
layout_atom-returns-in-Some-number_here-clause-read t c = rw (c.in-Some.ensures, c.in-Some-number_here.ensures, c.in-Ok-take_sign.ensures) gap_layout

pub parts-returns-clause-read : goal.parts-returns-clause-read
parts-returns-clause-read t c =
    λ s. rw c.parts_layout.ensures (parts_of s _ _ _ c.in-Ok.ensures c.in-Ok-take_sign.ensures c.in-Ok-field.ensures.read c.in-Ok-more_fields.ensures.read c.in-Ok-take_sign-2.ensures)

pub alternative_field-returns-clause-read : goal.alternative_field-returns-clause-read
alternative_field-returns-clause-read t c = plain_field c.in-Ok.ensures.read

pub overlay-returns-clause-read : goal.overlay-returns-clause-read
overlay-returns-clause-read t c =
    λ s. rw c.overlay_field.ensures (overlay_of s _ _ _ _ _ c.in-Ok.ensures c.in-Ok-take_name.ensures c.in-Ok-take_sign.ensures c.in-Ok-alternative.ensures.read c.in-Some.ensures c.in-Ok-more_alternatives.ensures.read c.in-Ok-take_sign-2.ensures)

pub alternative-returns-in-Some-clause-read : goal.alternative-returns-in-Some-clause-read
alternative-returns-in-Some-clause-read t c = rw c.in-Some.ensures bits_field

pub alternative-returns-clause-read : goal.alternative-returns-clause-read
alternative-returns-clause-read t c = inner_field c.in-Ok.ensures.read

-- ---- where a layout ends or fails

pub layout-returns-in-Err-clause-answers : goal.layout-returns-in-Err-clause-answers
layout-returns-in-Err-clause-answers t c =
    whole_fails atom_whole atom_first c.in-Err.ensures.answers

pub layout-returns-in_default-clause-answers : goal.layout-returns-in_default-clause-answers
layout-returns-in_default-clause-answers t c =
    atom_reads _ c.in-Ok.ensures.read (omega (arith, c.in-Ok.ensures.measured, c.in-Ok.ensures.low)) c.in_default.ensures

pub layout-returns-then-first-room-clause-answers : goal.layout-returns-then-first-room-clause-answers
layout-returns-then-first-room-clause-answers t c =
    let f = atom_frame c.in-Ok.ensures.read in
    behind_fails _ f.split (deep (high_fails (atom_completes _ f (omega (arith, c.in-Ok.ensures.measured, c.in-Ok.ensures.low))) (join_starts f c.in-Some.ensures) (join_dead _ f (omega (arith, c.in-Ok.ensures.measured, c.in-Ok.ensures.low, c.if-first-room.true)) (sign_goes_on 0 c.in-Some.ensures (omega arith)))))

pub layout-returns-in-Err-more_layouts-clause-answers : goal.layout-returns-in-Err-more_layouts-clause-answers
layout-returns-in-Err-more_layouts-clause-answers t c =
    let f = atom_frame c.in-Ok.ensures.read in
    behind_fails _ f.split (at_fails (joined_rule _ f (omega (arith, c.in-Ok.ensures.measured, c.in-Ok.ensures.low, c.if-first-room.false)) (sign_goes_on 0 c.in-Some.ensures (omega arith))) (some_fails (next_layout_fills _ (omega (arith, c.in-Ok.ensures.measured, c.in-Ok.ensures.low, c.if-first-room.false, layout_high (layout_tree c.in-Ok.found.value)))) c.in-Err-more_layouts.ensures.answers))

pub layout-returns-clause-answers : goal.layout-returns-clause-answers
layout-returns-clause-answers t c =
    let f = atom_frame c.in-Ok.ensures.read in
    behind_reads _ f.split (at_reads (joined_rule _ f (omega (arith, c.in-Ok.ensures.measured, c.in-Ok.ensures.low, c.if-first-room.false)) (sign_goes_on 0 c.in-Some.ensures (omega arith))) (some_reads (not_ended c.in-Some.ensures c.in-Ok-more_layouts.ensures.ends) c.in-Ok-more_layouts.ensures.answers))

pub more_layouts-returns-in-Err-clause-answers : goal.more_layouts-returns-in-Err-clause-answers
more_layouts-returns-in-Err-clause-answers t c =
    no_memory

pub more_layouts-returns-in-Err-push-clause-answers : goal.more_layouts-returns-in-Err-push-clause-answers
more_layouts-returns-in-Err-push-clause-answers t c =
    no_memory

pub more_layouts-returns-clause-answers : goal.more_layouts-returns-clause-answers
more_layouts-returns-clause-answers t c =
    read_many_reads layouts_listed c.requires.room c.loop-after.invariant.items (many_ends (no_item _ _ c.in_default.ensures))

pub more_fields-returns-in-Err-clause-answers : goal.more_fields-returns-in-Err-clause-answers
more_fields-returns-in-Err-clause-answers t c =
    no_memory

pub more_fields-returns-in-Err-push-clause-answers : goal.more_fields-returns-in-Err-push-clause-answers
more_fields-returns-in-Err-push-clause-answers t c =
    no_memory

pub more_fields-returns-clause-answers : goal.more_fields-returns-clause-answers
more_fields-returns-clause-answers t c =
    read_many_reads fields_listed c.requires.room c.loop-after.invariant.items (many_ends (no_item _ _ c.in_default.ensures))

pub more_alternatives-returns-in-Err-clause-answers : goal.more_alternatives-returns-in-Err-clause-answers
more_alternatives-returns-in-Err-clause-answers t c =
    no_memory

pub more_alternatives-returns-in-Err-push-clause-answers : goal.more_alternatives-returns-in-Err-push-clause-answers
more_alternatives-returns-in-Err-push-clause-answers t c =
    no_memory

pub more_alternatives-returns-clause-answers : goal.more_alternatives-returns-clause-answers
more_alternatives-returns-clause-answers t c =
    read_many_reads alternatives_listed c.requires.room c.loop-after.invariant.items (many_ends (no_item _ _ c.in_default.ensures))

pub more_layouts-returns-in-Err-layout_atom-clause-answers : goal.more_layouts-returns-in-Err-layout_atom-clause-answers
more_layouts-returns-in-Err-layout_atom-clause-answers t c =
    read_many_fails layouts_listed c.requires.room c.loop-after.invariant.items (item_fails layouts_listed c.requires.room (sign_goes_on 0 c.in-Some.ensures (omega arith))
    (one_then (λ x. Sign 30) _ tt c.in-Some.ensures c.in-Err-layout_atom.ensures.answers))

pub more_fields-returns-in-Err-take_name-clause-answers : goal.more_fields-returns-in-Err-take_name-clause-answers
more_fields-returns-in-Err-take_name-clause-answers t c =
    read_many_fails fields_listed c.requires.room c.loop-after.invariant.items (item_fails fields_listed c.requires.room (sign_goes_on 10 c.in-Some.ensures (omega arith))
    (one_then (λ x. Sign 22) _ tt c.in-Some.ensures (first_fails carries_anything (colon_fills _ c.requires.room) (name_fails _ _ _ c.in-Err-take_name.ensures))))

pub more_fields-returns-in-Err-take_sign-clause-answers : goal.more_fields-returns-in-Err-take_sign-clause-answers
more_fields-returns-in-Err-take_sign-clause-answers t c =
    read_many_fails fields_listed c.requires.room c.loop-after.invariant.items (item_fails fields_listed c.requires.room (sign_goes_on 10 c.in-Some.ensures (omega arith))
    (one_then (λ x. Sign 22) _ tt c.in-Some.ensures (one_then Word _ _ c.in-Ok-take_name.ensures (first_fails carries_anything (field_fills _ c.requires.room) (sign_fails _ _ _ _ c.in-Err-take_sign.ensures)))))

pub more_fields-returns-in-Err-field-clause-answers : goal.more_fields-returns-in-Err-field-clause-answers
more_fields-returns-in-Err-field-clause-answers t c =
    read_many_fails fields_listed c.requires.room c.loop-after.invariant.items (item_fails fields_listed c.requires.room (sign_goes_on 10 c.in-Some.ensures (omega arith))
    (one_then (λ x. Sign 22) _ tt c.in-Some.ensures (one_then Word _ _ c.in-Ok-take_name.ensures (one_then (λ x. Sign 21) _ tt c.in-Ok-take_sign.ensures c.in-Err-field.ensures.answers))))

pub more_alternatives-returns-in-Err-take_name-clause-answers : goal.more_alternatives-returns-in-Err-take_name-clause-answers
more_alternatives-returns-in-Err-take_name-clause-answers t c =
    read_many_fails alternatives_listed c.requires.room c.loop-after.invariant.items (item_fails alternatives_listed c.requires.room (sign_goes_on 10 c.in-Some.ensures (omega arith))
    (one_then (λ x. Sign 3) _ tt c.in-Some.ensures (first_fails carries_anything (alternative_colon_fills _ c.requires.room) (name_fails _ _ _ c.in-Err-take_name.ensures))))

pub more_alternatives-returns-in-Err-take_sign-clause-answers : goal.more_alternatives-returns-in-Err-take_sign-clause-answers
more_alternatives-returns-in-Err-take_sign-clause-answers t c =
    read_many_fails alternatives_listed c.requires.room c.loop-after.invariant.items (item_fails alternatives_listed c.requires.room (sign_goes_on 10 c.in-Some.ensures (omega arith))
    (one_then (λ x. Sign 3) _ tt c.in-Some.ensures (one_then Word _ _ c.in-Ok-take_name.ensures (first_fails carries_anything (alternative_fills _ c.requires.room) (sign_fails _ _ _ _ c.in-Err-take_sign.ensures)))))

pub more_alternatives-returns-in-Err-alternative-clause-answers : goal.more_alternatives-returns-in-Err-alternative-clause-answers
more_alternatives-returns-in-Err-alternative-clause-answers t c =
    read_many_fails alternatives_listed c.requires.room c.loop-after.invariant.items (item_fails alternatives_listed c.requires.room (sign_goes_on 10 c.in-Some.ensures (omega arith))
    (one_then (λ x. Sign 3) _ tt c.in-Some.ensures (one_then Word _ _ c.in-Ok-take_name.ensures (one_then (λ x. Sign 21) _ tt c.in-Ok-take_sign.ensures c.in-Err-alternative.ensures.answers))))

pub layout_atom-returns-in-Err-clause-answers : goal.layout_atom-returns-in-Err-clause-answers
layout_atom-returns-in-Err-clause-answers t c =
    row_fails (name_rule _ c.in_default.ensures) c.requires (name_fails _ _ _ c.in-Err.ensures)

pub layout_atom-returns-in_default-clause-answers : goal.layout_atom-returns-in_default-clause-answers
layout_atom-returns-in_default-clause-answers t c =
    row_reads (name_rule _ c.in_default.ensures) c.requires (one_reads Word _ _ _ c.in-Ok.ensures)

pub layout_atom-returns-in-Err-take_sign-clause-answers : goal.layout_atom-returns-in-Err-take_sign-clause-answers
layout_atom-returns-in-Err-take_sign-clause-answers t c =
    behind_fails _ c.in-Some.ensures (rule_fails (gap_rule _ _ _ _ _ c.in-Some-number_here.ensures) c.requires (one_then Number _ _ c.in-Some-number_here.ensures (sign_fails _ _ _ _ c.in-Err-take_sign.ensures)))

pub layout_atom-returns-in-Some-number_here-clause-answers : goal.layout_atom-returns-in-Some-number_here-clause-answers
layout_atom-returns-in-Some-number_here-clause-answers t c =
    behind_reads _ c.in-Some.ensures (rule_reads (gap_rule _ _ _ _ _ c.in-Some-number_here.ensures) c.requires (then_reads carries_anything (one_reads Number _ _ _ c.in-Some-number_here.ensures) (one_reads (λ x. Sign 27) _ _ tt c.in-Ok-take_sign.ensures)))

pub layout_atom-returns-in_default-name_here-clause-answers : goal.layout_atom-returns-in_default-name_here-clause-answers
layout_atom-returns-in_default-name_here-clause-answers t c =
    behind_fails _ c.in-Some.ensures (syntax (none_fails (inside_completes _ _ c.requires) (inside_starts_none _ c.in_default-number_here.ensures c.in_default-name_here.ensures)))

pub layout_atom-returns-then-room-eq1-clause-answers : goal.layout_atom-returns-then-room-eq1-clause-answers
layout_atom-returns-then-room-eq1-clause-answers t c =
    behind_fails _ c.in-Some.ensures (deep (high_fails (inside_completes _ _ c.requires) (inside_starts _ c.in-Some-name_here.ensures) (no_parts _ _ _ _ _ _ c.if-room-eq1.true c.in-Some-name_here.ensures)))

pub layout_atom-returns-clause-answers : goal.layout_atom-returns-clause-answers
layout_atom-returns-clause-answers t c =
    each_result _ (λ f r. behind_reads _ c.in-Some.ensures (r _)) (λ e r. behind_fails _ c.in-Some.ensures (r _)) c.parts.ensures.answers

pub parts-returns-in-Err-clause-answers : goal.parts-returns-in-Err-clause-answers
parts-returns-in-Err-clause-answers t c =
    λ s. rule_fails (parts_rule s _ c.requires.fields) (omega arith) (first_fails parts_carries (parts_fills _) (first_fails carries_anything (colon_fills _ (omega arith)) (name_fails _ _ _ c.in-Err.ensures)))

pub parts-returns-in-Err-take_sign-clause-answers : goal.parts-returns-in-Err-take_sign-clause-answers
parts-returns-in-Err-take_sign-clause-answers t c =
    λ s. rule_fails (parts_rule s _ c.requires.fields) (omega arith) (first_fails parts_carries (parts_fills _) (one_then Word _ _ c.in-Ok.ensures (first_fails carries_anything (field_fills _ (omega arith)) (sign_fails _ _ _ _ c.in-Err-take_sign.ensures))))

pub parts-returns-in-Err-field-clause-answers : goal.parts-returns-in-Err-field-clause-answers
parts-returns-in-Err-field-clause-answers t c =
    λ s. rule_fails (parts_rule s _ c.requires.fields) (omega arith) (first_fails parts_carries (parts_fills _) (one_then Word _ _ c.in-Ok.ensures (one_then (λ x. Sign 21) _ tt c.in-Ok-take_sign.ensures c.in-Err-field.ensures.answers)))

pub parts-returns-in-Err-more_fields-clause-answers : goal.parts-returns-in-Err-more_fields-clause-answers
parts-returns-in-Err-more_fields-clause-answers t c =
    λ s. rule_fails (parts_rule s _ c.requires.fields) (omega arith) (then_fails parts_carries (then_reads carries_anything (one_reads Word _ _ _ c.in-Ok.ensures) (then_reads carries_anything (one_reads (λ x. Sign 21) _ _ tt c.in-Ok-take_sign.ensures) c.in-Ok-field.ensures.answers))
    (first_fails (one_carries 10 (λ x. omega arith)) (one_fills _ tt) c.in-Err-more_fields.ensures.answers))

pub parts-returns-in-Err-take_sign-2-clause-answers : goal.parts-returns-in-Err-take_sign-2-clause-answers
parts-returns-in-Err-take_sign-2-clause-answers t c =
    λ s. rule_fails (parts_rule s _ c.requires.fields) (omega arith) (then_fails parts_carries (then_reads carries_anything (one_reads Word _ _ _ c.in-Ok.ensures) (then_reads carries_anything (one_reads (λ x. Sign 21) _ _ tt c.in-Ok-take_sign.ensures) c.in-Ok-field.ensures.answers))
    (then_fails (one_carries 10 (λ x. omega arith)) c.in-Ok-more_fields.ensures.answers (sign_fails _ _ _ _ c.in-Err-take_sign-2.ensures)))

pub parts-returns-clause-answers : goal.parts-returns-clause-answers
parts-returns-clause-answers t c =
    λ s. rule_reads (parts_rule s _ c.requires.fields) (omega arith) (then_reads parts_carries (then_reads carries_anything (one_reads Word _ _ _ c.in-Ok.ensures) (then_reads carries_anything (one_reads (λ x. Sign 21) _ _ tt c.in-Ok-take_sign.ensures) c.in-Ok-field.ensures.answers))
    (then_reads (one_carries 10 (λ x. omega arith)) c.in-Ok-more_fields.ensures.answers (one_reads (λ x. Sign 27) _ _ tt c.in-Ok-take_sign-2.ensures)))

pub field-returns-then-room-eq1-clause-answers : goal.field-returns-then-room-eq1-clause-answers
field-returns-then-room-eq1-clause-answers t c =
    deep (high_fails ((field_fills _ c.requires).with_ true) (starts_overlay c.in-Some.ensures) (no_overlay _ _ _ _ c.if-room-eq1.true c.in-Some.ensures))

pub field-returns-clause-answers : goal.field-returns-clause-answers
field-returns-clause-answers t c =
    each_result _ (λ f r. behind_reads _ c.in-Some.ensures (r _)) (λ e r. behind_fails _ c.in-Some.ensures (r _)) c.overlay.ensures.answers

pub alternative_field-returns-in-Err-clause-answers : goal.alternative_field-returns-in-Err-clause-answers
alternative_field-returns-in-Err-clause-answers t c =
    row_fails (plain_rule _ c.requires.plain) c.requires.room c.in-Err.ensures.answers

pub alternative_field-returns-clause-answers : goal.alternative_field-returns-clause-answers
alternative_field-returns-clause-answers t c =
    row_reads (plain_rule _ c.requires.plain) c.requires.room c.in-Ok.ensures.answers

pub overlay-returns-in-Err-clause-answers : goal.overlay-returns-in-Err-clause-answers
overlay-returns-in-Err-clause-answers t c =
    λ s. rule_fails (overlay_rule s _) (omega arith) (first_fails carries_anything (row_fills _ (omega arith)) (sign_fails _ _ _ _ c.in-Err.ensures))

pub overlay-returns-in-Err-take_name-clause-answers : goal.overlay-returns-in-Err-take_name-clause-answers
overlay-returns-in-Err-take_name-clause-answers t c =
    λ s. rule_fails (overlay_rule s _) (omega arith) (one_then (λ x. Sign 26) _ tt c.in-Ok.ensures (first_fails overlay_carries (overlay_fills _ (omega arith)) (first_fails carries_anything (alternative_colon_fills _ (omega arith)) (name_fails _ _ _ c.in-Err-take_name.ensures))))

pub overlay-returns-in-Err-take_sign-clause-answers : goal.overlay-returns-in-Err-take_sign-clause-answers
overlay-returns-in-Err-take_sign-clause-answers t c =
    λ s. rule_fails (overlay_rule s _) (omega arith) (one_then (λ x. Sign 26) _ tt c.in-Ok.ensures (first_fails overlay_carries (overlay_fills _ (omega arith)) (one_then Word _ _ c.in-Ok-take_name.ensures (first_fails carries_anything (alternative_fills _ (omega arith)) (sign_fails _ _ _ _ c.in-Err-take_sign.ensures)))))

pub overlay-returns-in-Err-alternative-clause-answers : goal.overlay-returns-in-Err-alternative-clause-answers
overlay-returns-in-Err-alternative-clause-answers t c =
    λ s. rule_fails (overlay_rule s _) (omega arith) (one_then (λ x. Sign 26) _ tt c.in-Ok.ensures (first_fails overlay_carries (overlay_fills _ (omega arith)) (one_then Word _ _ c.in-Ok-take_name.ensures (one_then (λ x. Sign 21) _ tt c.in-Ok-take_sign.ensures c.in-Err-alternative.ensures.answers))))

pub overlay-returns-in_default-clause-answers : goal.overlay-returns-in_default-clause-answers
overlay-returns-in_default-clause-answers t c =
    λ s. rule_fails (overlay_rule s _) (omega arith) (one_then (λ x. Sign 26) _ tt c.in-Ok.ensures (then_fails overlay_carries (then_reads carries_anything (one_reads Word _ _ _ c.in-Ok-take_name.ensures) (then_reads carries_anything (one_reads (λ x. Sign 21) _ _ tt c.in-Ok-take_sign.ensures) c.in-Ok-alternative.ensures.answers))
    (bar_fails _ (omega arith) _ _ (refl, c.in_default.ensures))))

pub overlay-returns-in-Err-more_alternatives-clause-answers : goal.overlay-returns-in-Err-more_alternatives-clause-answers
overlay-returns-in-Err-more_alternatives-clause-answers t c =
    λ s. rule_fails (overlay_rule s _) (omega arith) (one_then (λ x. Sign 26) _ tt c.in-Ok.ensures (then_fails overlay_carries (then_reads carries_anything (one_reads Word _ _ _ c.in-Ok-take_name.ensures) (then_reads carries_anything (one_reads (λ x. Sign 21) _ _ tt c.in-Ok-take_sign.ensures) c.in-Ok-alternative.ensures.answers))
    (alternatives_fail (omega arith) c.in-Err-more_alternatives.ensures.answers)))

pub overlay-returns-in-Err-take_sign-2-clause-answers : goal.overlay-returns-in-Err-take_sign-2-clause-answers
overlay-returns-in-Err-take_sign-2-clause-answers t c =
    λ s. rule_fails (overlay_rule s _) (omega arith) (one_then (λ x. Sign 26) _ tt c.in-Ok.ensures (then_fails overlay_carries (then_reads carries_anything (one_reads Word _ _ _ c.in-Ok-take_name.ensures) (then_reads carries_anything (one_reads (λ x. Sign 21) _ _ tt c.in-Ok-take_sign.ensures) c.in-Ok-alternative.ensures.answers))
    (close_fails (not_ended c.in-Some.ensures c.in-Ok-more_alternatives.ensures.ends) c.in-Ok-more_alternatives.ensures.answers (sign_fails _ _ _ _ c.in-Err-take_sign-2.ensures))))

pub overlay-returns-clause-answers : goal.overlay-returns-clause-answers
overlay-returns-clause-answers t c =
    λ s. rule_reads (overlay_rule s _) (omega arith) (then_reads carries_anything (one_reads (λ x. Sign 26) _ _ tt c.in-Ok.ensures) (then_reads overlay_carries (then_reads carries_anything (one_reads Word _ _ _ c.in-Ok-take_name.ensures) (then_reads carries_anything (one_reads (λ x. Sign 21) _ _ tt c.in-Ok-take_sign.ensures) c.in-Ok-alternative.ensures.answers))
    (close_reads (not_ended c.in-Some.ensures c.in-Ok-more_alternatives.ensures.ends) c.in-Ok-more_alternatives.ensures.answers (one_reads (λ x. Sign 27) _ _ tt c.in-Ok-take_sign-2.ensures))))

pub alternative-returns-in-Some-clause-answers : goal.alternative-returns-in-Some-clause-answers
alternative-returns-in-Some-clause-answers t c =
    row_reads (bits_rule _ _ _ _ c.in-Some.ensures) c.requires (one_reads Number _ _ _ c.in-Some.ensures)

pub alternative-returns-in-Err-clause-answers : goal.alternative-returns-in-Err-clause-answers
alternative-returns-in-Err-clause-answers t c =
    row_fails (inner_rule _ c.in_default.ensures) c.requires c.in-Err.ensures.answers

pub alternative-returns-clause-answers : goal.alternative-returns-clause-answers
alternative-returns-clause-answers t c =
    row_reads (inner_rule _ c.in_default.ensures) c.requires c.in-Ok.ensures.answers
