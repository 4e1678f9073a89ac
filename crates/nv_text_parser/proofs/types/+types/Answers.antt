use Rattle.std.proofs.Common.{◌≡◌, ◌∷◌, ◌++◌, [], ap, ◌∙◌, arith, length, rules, max, List, ℕ, false, refl}
use Rattle.nv_ast.specs.declared.tree.TyText.{TyText}
use Rattle.nv_ast.specs.Grammar.{bool_type, packed_type, unpacked_type, unit_type}
use Rattle.nv_text_parser.proofs.Lists.{types_start, types_step, highest_type_one, highest_type_push, named_types_start, named_types_step, highest_named_type_one, highest_named_type_push}
use Rattle.nv_ast.specs.declared.token.Sort.TheVariants.{Word, Key, Sign}
use Rattle.nv_text_parser.specs.inner.Failing.{read_none, read_next, no_memory, syntax, deep}
use Rattle.nv_text_parser.proofs.Rules.{tuple_type_of, record_type_of, not_ended}
use Rattle.nv_text_parser.proofs.Sequence.{carries_anything, one_reads, one_then, then_reads, then_fails, first_fails, sign_fails, name_fails, rule_reads, rule_fails, row_reads, behind_reads, behind_fails, token_fails, high_fails, part_none_fails, part_deep_fails, read_many_reads, read_many_fails, item_fails, many_ends, no_item, sign_goes_on, each_result, one_carries, one_fills}
use Rattle.nv_text_parser.proofs.TypeRules.{type_completes, types_listed, named_listed, bool_rule, packed_rule, unpacked_rule, unit_rule, tuple_rule, tuple_carries, none_low, open_completes, end_fills, comma_fails, parts_fail, close_fails, close_reads, type_fills, colon_fills, record_rule, record_carries, record_fills, no_record, starts_record, starts_none}
use Rattle.nv_text_parser.proofs.types.+types.Goals as goal

pub more_types-loop-after-init : goal.more_types-loop-after-init
more_types-loop-after-init t c =
    let one : c.push.new.self.items ≡ c.args.first ∷ [] = c.in-Ok.ensures.items ∙ ap (λ (z : List TyText). z ++ c.args.first ∷ []) c.new-types.ensures.items in
    record {
      read = types_start _ _ _ one;
      items = read_none;
      measured = omega (arith, c.requires.measured, highest_type_one _ _ one);
      low = c.requires.low;
      shorter = omega arith;
    }

pub more_types-loop-after-preserved : goal.more_types-loop-after-preserved
more_types-loop-after-preserved t c =
    let m : c.max-highest.result ≡ max c.loop-after.highest c.in-Ok-type_text.found.height = search rules in
    record {
      read = types_step _ _ _ _ _ _ _ _ _ c.loop-after.invariant.read c.in-Some.ensures c.in-Ok-type_text.ensures.read c.in-Ok-push.ensures.items;
      items = read_next c.loop-after.invariant.items (then_reads carries_anything (one_reads (λ x. Sign 22) _ _ tt c.in-Some.ensures) c.in-Ok-type_text.ensures.answers);
      measured = omega (arith, m, highest_type_push _ _ _ c.in-Ok-push.ensures.items, c.loop-after.invariant.measured, c.in-Ok-type_text.ensures.measured);
      low = omega (arith, m, c.loop-after.invariant.low, c.in-Ok-type_text.ensures.low);
      shorter = omega (arith, c.loop-after.invariant.shorter, c.in-Ok-type_text.ensures.shorter, ap length c.in-Some.ensures);
    }

pub more_named_types-loop-after-init : goal.more_named_types-loop-after-init
more_named_types-loop-after-init t c =
    let one : c.push.new.self.items ≡ (c.args.name, c.args.first) ∷ [] = c.in-Ok.ensures.items ∙ ap (λ (z : List (List ℕ × TyText)). z ++ (c.args.name, c.args.first) ∷ []) c.new-types.ensures.items in
    record {
      read = named_types_start _ _ _ one;
      items = read_none;
      measured = omega (arith, c.requires.measured, highest_named_type_one _ _ one);
      low = c.requires.low;
      shorter = omega arith;
    }

pub more_named_types-loop-after-preserved : goal.more_named_types-loop-after-preserved
more_named_types-loop-after-preserved t c =
    let m : c.max-highest.result ≡ max c.loop-after.highest c.in-Ok-type_text.found.height = search rules in
    record {
      read = named_types_step _ _ _ _ _ _ _ _ _ _ _ _ _ _ c.loop-after.invariant.read c.in-Some.ensures c.in-Ok-take_name.ensures c.in-Ok-take_sign.ensures c.in-Ok-type_text.ensures.read c.in-Ok-push.ensures.items;
      items = read_next c.loop-after.invariant.items
          (then_reads carries_anything (one_reads (λ x. Sign 22) _ _ tt c.in-Some.ensures) (then_reads carries_anything (one_reads Word _ _ _ c.in-Ok-take_name.ensures) (then_reads carries_anything (one_reads (λ x. Sign 21) _ _ tt c.in-Ok-take_sign.ensures) c.in-Ok-type_text.ensures.answers)));
      measured = omega (arith, m, highest_named_type_push _ _ _ c.in-Ok-push.ensures.items, c.loop-after.invariant.measured, c.in-Ok-type_text.ensures.measured);
      low = omega (arith, m, c.loop-after.invariant.low, c.in-Ok-type_text.ensures.low);
      shorter = omega (arith, c.loop-after.invariant.shorter, c.in-Ok-type_text.ensures.shorter, ap length c.in-Some.ensures, ap length c.in-Ok-take_name.ensures, ap length c.in-Ok-take_sign.ensures);
    }

pub type_text-returns-in-Some-key_here-clause-read : goal.type_text-returns-in-Some-key_here-clause-read
type_text-returns-in-Some-key_here-clause-read t c = rw c.in-Some-key_here.ensures bool_type

pub type_text-returns-in-Some-key_here-2-clause-read : goal.type_text-returns-in-Some-key_here-2-clause-read
type_text-returns-in-Some-key_here-2-clause-read t c = rw (c.in-Some-key_here-2.ensures, c.in-Ok.ensures.read.split) packed_type

pub type_text-returns-in-Some-key_here-3-clause-read : goal.type_text-returns-in-Some-key_here-3-clause-read
type_text-returns-in-Some-key_here-3-clause-read t c = rw (c.in-Some-key_here-3.ensures, c.in-Ok-layout_name.ensures.read.split) unpacked_type

pub tuple_type-returns-in-Some-clause-read : goal.tuple_type-returns-in-Some-clause-read
tuple_type-returns-in-Some-clause-read t c = λ s. rw (c.tuple_of.ensures, c.new.ensures.items, c.in-Some.ensures) unit_type

pub tuple_type-returns-clause-read : goal.tuple_type-returns-clause-read
tuple_type-returns-clause-read t c =
    λ s. rw c.tuple_of-2.ensures (tuple_type_of s _ _ c.in-Ok.ensures.read c.in-Some-sign_here.ensures c.in-Ok-more_types.ensures.read c.in-Ok-take_sign.ensures)

pub record_type-returns-clause-read : goal.record_type-returns-clause-read
record_type-returns-clause-read t c =
    λ s. rw c.record_of.ensures (record_type_of s _ _ _ c.in-Ok.ensures c.in-Ok-take_sign.ensures c.in-Ok-type_text.ensures.read c.in-Ok-more_named_types.ensures.read c.in-Ok-take_sign-2.ensures)

-- ---- where a type ends or fails

pub type_text-returns-in-Some-clause-answers : goal.type_text-returns-in-Some-clause-answers
type_text-returns-in-Some-clause-answers t c =
    each_result _ (λ f r. behind_reads _ c.in-Some.ensures (r _ _ c.requires)) (λ e r. behind_fails _ c.in-Some.ensures (r _ _ c.requires)) c.words_type.ensures.answers

pub type_text-returns-in-Some-key_here-clause-answers : goal.type_text-returns-in-Some-key_here-clause-answers
type_text-returns-in-Some-key_here-clause-answers t c =
    row_reads (bool_rule _ _ _ c.in-Some-key_here.ensures) c.requires (one_reads (λ x. Key 16) _ _ tt c.in-Some-key_here.ensures)

pub type_text-returns-in-Err-clause-answers : goal.type_text-returns-in-Err-clause-answers
type_text-returns-in-Err-clause-answers t c =
    behind_fails _ c.in-Some-key_here-2.ensures (rule_fails (packed_rule _ _) c.requires (c.in-Err.ensures.answers _))

pub type_text-returns-in-Some-key_here-2-clause-answers : goal.type_text-returns-in-Some-key_here-2-clause-answers
type_text-returns-in-Some-key_here-2-clause-answers t c =
    behind_reads _ c.in-Some-key_here-2.ensures (rule_reads (packed_rule _ _) c.requires (c.in-Ok.ensures.answers _))

pub type_text-returns-in-Err-layout_name-clause-answers : goal.type_text-returns-in-Err-layout_name-clause-answers
type_text-returns-in-Err-layout_name-clause-answers t c =
    behind_fails _ c.in-Some-key_here-3.ensures (rule_fails (unpacked_rule _ _) c.requires (c.in-Err-layout_name.ensures.answers _))

pub type_text-returns-in-Some-key_here-3-clause-answers : goal.type_text-returns-in-Some-key_here-3-clause-answers
type_text-returns-in-Some-key_here-3-clause-answers t c =
    behind_reads _ c.in-Some-key_here-3.ensures (rule_reads (unpacked_rule _ _) c.requires (c.in-Ok-layout_name.ensures.answers _))

pub type_text-returns-in-Some-sign_here-clause-answers : goal.type_text-returns-in-Some-sign_here-clause-answers
type_text-returns-in-Some-sign_here-clause-answers t c =
    each_result _ (λ f r. behind_reads _ c.in-Some-sign_here.ensures (r _)) (λ e r. behind_fails _ c.in-Some-sign_here.ensures (r _)) c.tuple_type.ensures.answers

pub type_text-returns-in-Err-take_sign-clause-answers : goal.type_text-returns-in-Err-take_sign-clause-answers
type_text-returns-in-Err-take_sign-clause-answers t c =
    token_fails _ _ (type_completes _ c.requires) (starts_none c.in_default.ensures c.in_default-key_here.ensures c.in_default-key_here-2.ensures c.in_default-key_here-3.ensures c.in_default-sign_here.ensures c.in-Err-take_sign.ensures.1) c.in-Err-take_sign.ensures.0

pub type_text-returns-then-room-eq1-clause-answers : goal.type_text-returns-then-room-eq1-clause-answers
type_text-returns-then-room-eq1-clause-answers t c =
    deep (high_fails (type_completes _ c.requires) (starts_record c.in-Ok-take_sign.ensures) (no_record _ _ _ _ c.if-room-eq1.true c.in-Ok-take_sign.ensures))

pub type_text-returns-clause-answers : goal.type_text-returns-clause-answers
type_text-returns-clause-answers t c =
    each_result _ (λ f r. behind_reads _ c.in-Ok-take_sign.ensures (r _)) (λ e r. behind_fails _ c.in-Ok-take_sign.ensures (r _)) c.record_type.ensures.answers

pub tuple_type-returns-in-Some-clause-answers : goal.tuple_type-returns-in-Some-clause-answers
tuple_type-returns-in-Some-clause-answers t c =
    λ s. rule_reads (unit_rule s _ _ _ c.in-Some.ensures) c.requires (one_reads (λ x. Sign 25) _ _ tt c.in-Some.ensures)

pub tuple_type-returns-then-not-begins_type-clause-answers : goal.tuple_type-returns-then-not-begins_type-clause-answers
tuple_type-returns-then-not-begins_type-clause-answers t c =
    λ s. syntax (part_none_fails (tuple_rule s _ c.in_default.ensures) (open_completes s _ c.requires) c.if-not-begins_type.ensures)

pub tuple_type-returns-then-room-eq1-clause-answers : goal.tuple_type-returns-then-room-eq1-clause-answers
tuple_type-returns-then-room-eq1-clause-answers t c =
    λ s. deep (part_deep_fails (tuple_rule s _ c.in_default.ensures) c.if-room-eq1.true (open_completes s _ c.requires) c.if-not-begins_type.ensures ((end_fills 1 (omega arith)).with_ false) none_low)

pub tuple_type-returns-in-Err-clause-answers : goal.tuple_type-returns-in-Err-clause-answers
tuple_type-returns-in-Err-clause-answers t c =
    λ s. rule_fails (tuple_rule s _ c.in_default.ensures) c.requires (first_fails tuple_carries (end_fills _ (omega arith)) c.in-Err.ensures.answers)

pub tuple_type-returns-in_default-sign_here-clause-answers : goal.tuple_type-returns-in_default-sign_here-clause-answers
tuple_type-returns-in_default-sign_here-clause-answers t c =
    λ s. rule_fails (tuple_rule s _ c.in_default.ensures) c.requires (then_fails tuple_carries c.in-Ok.ensures.answers (comma_fails _ (omega arith) _ _ (refl, c.in_default-sign_here.ensures)))

pub tuple_type-returns-in-Err-more_types-clause-answers : goal.tuple_type-returns-in-Err-more_types-clause-answers
tuple_type-returns-in-Err-more_types-clause-answers t c =
    λ s. rule_fails (tuple_rule s _ c.in_default.ensures) c.requires (then_fails tuple_carries c.in-Ok.ensures.answers (parts_fail (omega arith) c.in-Err-more_types.ensures.answers))

pub tuple_type-returns-in-Err-take_sign-clause-answers : goal.tuple_type-returns-in-Err-take_sign-clause-answers
tuple_type-returns-in-Err-take_sign-clause-answers t c =
    λ s. rule_fails (tuple_rule s _ c.in_default.ensures) c.requires (then_fails tuple_carries c.in-Ok.ensures.answers
    (close_fails (not_ended c.in-Some-sign_here.ensures c.in-Ok-more_types.ensures.ends) c.in-Ok-more_types.ensures.answers (sign_fails _ _ _ _ c.in-Err-take_sign.ensures)))

pub tuple_type-returns-clause-answers : goal.tuple_type-returns-clause-answers
tuple_type-returns-clause-answers t c =
    λ s. rule_reads (tuple_rule s _ c.in_default.ensures) c.requires (then_reads tuple_carries c.in-Ok.ensures.answers
    (close_reads (not_ended c.in-Some-sign_here.ensures c.in-Ok-more_types.ensures.ends) c.in-Ok-more_types.ensures.answers (one_reads (λ x. Sign 25) _ _ tt c.in-Ok-take_sign.ensures)))

pub record_type-returns-in-Err-clause-answers : goal.record_type-returns-in-Err-clause-answers
record_type-returns-in-Err-clause-answers t c =
    λ s. rule_fails (record_rule s _) (omega arith) (first_fails record_carries (record_fills _) (first_fails carries_anything (colon_fills _ (omega arith)) (name_fails _ _ _ c.in-Err.ensures)))

pub record_type-returns-in-Err-take_sign-clause-answers : goal.record_type-returns-in-Err-take_sign-clause-answers
record_type-returns-in-Err-take_sign-clause-answers t c =
    λ s. rule_fails (record_rule s _) (omega arith) (first_fails record_carries (record_fills _) (one_then Word _ _ c.in-Ok.ensures (first_fails carries_anything (type_fills _ (omega arith)) (sign_fails _ _ _ _ c.in-Err-take_sign.ensures))))

pub record_type-returns-in-Err-type_text-clause-answers : goal.record_type-returns-in-Err-type_text-clause-answers
record_type-returns-in-Err-type_text-clause-answers t c =
    λ s. rule_fails (record_rule s _) (omega arith) (first_fails record_carries (record_fills _) (one_then Word _ _ c.in-Ok.ensures (one_then (λ x. Sign 21) _ tt c.in-Ok-take_sign.ensures c.in-Err-type_text.ensures.answers)))

pub record_type-returns-in-Err-more_named_types-clause-answers : goal.record_type-returns-in-Err-more_named_types-clause-answers
record_type-returns-in-Err-more_named_types-clause-answers t c =
    λ s. rule_fails (record_rule s _) (omega arith) (then_fails record_carries (then_reads carries_anything (one_reads Word _ _ _ c.in-Ok.ensures) (then_reads carries_anything (one_reads (λ x. Sign 21) _ _ tt c.in-Ok-take_sign.ensures) c.in-Ok-type_text.ensures.answers))
    (first_fails (one_carries 10 (λ x. omega arith)) (one_fills _ tt) c.in-Err-more_named_types.ensures.answers))

pub record_type-returns-in-Err-take_sign-2-clause-answers : goal.record_type-returns-in-Err-take_sign-2-clause-answers
record_type-returns-in-Err-take_sign-2-clause-answers t c =
    λ s. rule_fails (record_rule s _) (omega arith) (then_fails record_carries (then_reads carries_anything (one_reads Word _ _ _ c.in-Ok.ensures) (then_reads carries_anything (one_reads (λ x. Sign 21) _ _ tt c.in-Ok-take_sign.ensures) c.in-Ok-type_text.ensures.answers))
    (then_fails (one_carries 10 (λ x. omega arith)) c.in-Ok-more_named_types.ensures.answers (sign_fails _ _ _ _ c.in-Err-take_sign-2.ensures)))

pub record_type-returns-clause-answers : goal.record_type-returns-clause-answers
record_type-returns-clause-answers t c =
    λ s. rule_reads (record_rule s _) (omega arith) (then_reads record_carries (then_reads carries_anything (one_reads Word _ _ _ c.in-Ok.ensures) (then_reads carries_anything (one_reads (λ x. Sign 21) _ _ tt c.in-Ok-take_sign.ensures) c.in-Ok-type_text.ensures.answers))
    (then_reads (one_carries 10 (λ x. omega arith)) c.in-Ok-more_named_types.ensures.answers (one_reads (λ x. Sign 27) _ _ tt c.in-Ok-take_sign-2.ensures)))

pub more_types-returns-in-Err-clause-answers : goal.more_types-returns-in-Err-clause-answers
more_types-returns-in-Err-clause-answers t c =
    no_memory

pub more_types-returns-in-Err-push-clause-answers : goal.more_types-returns-in-Err-push-clause-answers
more_types-returns-in-Err-push-clause-answers t c =
    no_memory

pub more_types-returns-clause-answers : goal.more_types-returns-clause-answers
more_types-returns-clause-answers t c =
    read_many_reads types_listed c.requires.room c.loop-after.invariant.items (many_ends (no_item _ _ c.in_default.ensures))

pub more_named_types-returns-in-Err-clause-answers : goal.more_named_types-returns-in-Err-clause-answers
more_named_types-returns-in-Err-clause-answers t c =
    no_memory

pub more_named_types-returns-in-Err-push-clause-answers : goal.more_named_types-returns-in-Err-push-clause-answers
more_named_types-returns-in-Err-push-clause-answers t c =
    no_memory

pub more_named_types-returns-clause-answers : goal.more_named_types-returns-clause-answers
more_named_types-returns-clause-answers t c =
    read_many_reads named_listed c.requires.room c.loop-after.invariant.items (many_ends (no_item _ _ c.in_default.ensures))

pub more_types-returns-in-Err-type_text-clause-answers : goal.more_types-returns-in-Err-type_text-clause-answers
more_types-returns-in-Err-type_text-clause-answers t c =
    read_many_fails types_listed c.requires.room c.loop-after.invariant.items (item_fails types_listed c.requires.room (sign_goes_on 10 c.in-Some.ensures (omega arith))
    (one_then (λ x. Sign 22) _ tt c.in-Some.ensures c.in-Err-type_text.ensures.answers))

pub more_named_types-returns-in-Err-take_name-clause-answers : goal.more_named_types-returns-in-Err-take_name-clause-answers
more_named_types-returns-in-Err-take_name-clause-answers t c =
    read_many_fails named_listed c.requires.room c.loop-after.invariant.items (item_fails named_listed c.requires.room (sign_goes_on 10 c.in-Some.ensures (omega arith))
    (one_then (λ x. Sign 22) _ tt c.in-Some.ensures (first_fails carries_anything (colon_fills _ c.requires.room) (name_fails _ _ _ c.in-Err-take_name.ensures))))

pub more_named_types-returns-in-Err-take_sign-clause-answers : goal.more_named_types-returns-in-Err-take_sign-clause-answers
more_named_types-returns-in-Err-take_sign-clause-answers t c =
    read_many_fails named_listed c.requires.room c.loop-after.invariant.items (item_fails named_listed c.requires.room (sign_goes_on 10 c.in-Some.ensures (omega arith))
    (one_then (λ x. Sign 22) _ tt c.in-Some.ensures (one_then Word _ _ c.in-Ok-take_name.ensures (first_fails carries_anything (type_fills _ c.requires.room) (sign_fails _ _ _ _ c.in-Err-take_sign.ensures)))))

pub more_named_types-returns-in-Err-type_text-clause-answers : goal.more_named_types-returns-in-Err-type_text-clause-answers
more_named_types-returns-in-Err-type_text-clause-answers t c =
    read_many_fails named_listed c.requires.room c.loop-after.invariant.items (item_fails named_listed c.requires.room (sign_goes_on 10 c.in-Some.ensures (omega arith))
    (one_then (λ x. Sign 22) _ tt c.in-Some.ensures (one_then Word _ _ c.in-Ok-take_name.ensures (one_then (λ x. Sign 21) _ tt c.in-Ok-take_sign.ensures c.in-Err-type_text.ensures.answers))))
