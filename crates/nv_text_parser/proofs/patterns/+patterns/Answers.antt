use Rattle.std.proofs.Common.{◌≡◌, ◌∷◌, ◌++◌, [], ap, ◌∙◌, arith, length, rules, max, List, false, refl}
use Rattle.nv_ast.specs.declared.tree.Pat.{Pat}
use Rattle.nv_ast.specs.Grammar.{any_pattern, name_pattern, unit_pattern}
use Rattle.nv_text_parser.proofs.Lists.{patterns_start, patterns_step, highest_pattern_one, highest_pattern_push}
use Rattle.nv_ast.specs.declared.token.Sort.TheVariants.{Word, Key, Sign}
use Rattle.nv_text_parser.specs.inner.Failing.{read_none, read_next, no_memory, syntax, deep}
use Rattle.nv_text_parser.proofs.Rules.{tuple_pattern_of, not_ended}
use Rattle.nv_text_parser.proofs.Sequence.{carries_anything, one_reads, one_then, then_reads, then_fails, first_fails, sign_fails, name_fails, rule_reads, rule_fails, row_reads, row_fails, behind_reads, behind_fails, part_none_fails, part_deep_fails, read_many_reads, read_many_fails, item_fails, many_ends, no_item, sign_goes_on, each_result}
use Rattle.nv_text_parser.proofs.PatternRules.{patterns_listed, any_rule, name_rule, unit_rule, tuple_rule, none_low, open_completes, end_fills, comma_fails, parts_fail, close_fails, close_reads}
use Rattle.nv_text_parser.proofs.patterns.+patterns.Goals as goal

pub more_patterns-loop-after-init : goal.more_patterns-loop-after-init
more_patterns-loop-after-init t c =
    let one : c.push.new.self.items ≡ c.args.first ∷ [] = c.in-Ok.ensures.items ∙ ap (λ (z : List Pat). z ++ c.args.first ∷ []) c.new-patterns.ensures.items in
    record {
      read = patterns_start _ _ _ one;
      items = read_none;
      measured = omega (arith, c.requires.measured, highest_pattern_one _ _ one);
      low = c.requires.low;
      shorter = omega arith;
    }

pub more_patterns-loop-after-preserved : goal.more_patterns-loop-after-preserved
more_patterns-loop-after-preserved t c =
    let m : c.max-highest.result ≡ max c.loop-after.highest c.in-Ok-pattern.found.height = search rules in
    record {
      read = patterns_step _ _ _ _ _ _ _ _ _ c.loop-after.invariant.read c.in-Some.ensures c.in-Ok-pattern.ensures.read c.in-Ok-push.ensures.items;
      items = read_next c.loop-after.invariant.items (then_reads carries_anything (one_reads (λ x. Sign 22) _ _ tt c.in-Some.ensures) c.in-Ok-pattern.ensures.answers);
      measured = omega (arith, m, highest_pattern_push _ _ _ c.in-Ok-push.ensures.items, c.loop-after.invariant.measured, c.in-Ok-pattern.ensures.measured);
      low = omega (arith, m, c.loop-after.invariant.low, c.in-Ok-pattern.ensures.low);
      shorter = omega (arith, c.loop-after.invariant.shorter, c.in-Ok-pattern.ensures.shorter, ap length c.in-Some.ensures);
    }

pub pattern-returns-in-Some-clause-read : goal.pattern-returns-in-Some-clause-read
pattern-returns-in-Some-clause-read t c = rw c.in-Some.ensures any_pattern

pub pattern-returns-clause-read : goal.pattern-returns-clause-read
pattern-returns-clause-read t c = rw c.in-Ok.ensures name_pattern

pub tuple_pattern-returns-in-Some-clause-read : goal.tuple_pattern-returns-in-Some-clause-read
tuple_pattern-returns-in-Some-clause-read t c = λ s. rw (c.tuple_of.ensures, c.new.ensures.items, c.in-Some.ensures) unit_pattern

pub tuple_pattern-returns-clause-read : goal.tuple_pattern-returns-clause-read
tuple_pattern-returns-clause-read t c =
    λ s. rw c.tuple_of-2.ensures (tuple_pattern_of s _ _ c.in-Ok.ensures.read c.in-Some-sign_here.ensures c.in-Ok-more_patterns.ensures.read c.in-Ok-take_sign.ensures)

-- ---- where a pattern ends or fails

pub pattern-returns-in-Some-clause-answers : goal.pattern-returns-in-Some-clause-answers
pattern-returns-in-Some-clause-answers t c = row_reads (any_rule _ _ _ c.in-Some.ensures) c.requires (one_reads (λ x. Key 22) _ _ tt c.in-Some.ensures)

pub pattern-returns-in-Some-sign_here-clause-answers : goal.pattern-returns-in-Some-sign_here-clause-answers
pattern-returns-in-Some-sign_here-clause-answers t c =
    each_result _ (λ f r. behind_reads _ c.in-Some-sign_here.ensures (r _)) (λ e r. behind_fails _ c.in-Some-sign_here.ensures (r _)) c.tuple_pattern.ensures.answers

pub pattern-returns-in-Err-clause-answers : goal.pattern-returns-in-Err-clause-answers
pattern-returns-in-Err-clause-answers t c = row_fails (name_rule _ c.in_default.ensures c.in_default-sign_here.ensures) c.requires (name_fails _ _ _ c.in-Err.ensures)

pub pattern-returns-clause-answers : goal.pattern-returns-clause-answers
pattern-returns-clause-answers t c = row_reads (name_rule _ c.in_default.ensures c.in_default-sign_here.ensures) c.requires (one_reads Word _ _ _ c.in-Ok.ensures)

pub tuple_pattern-returns-in-Some-clause-answers : goal.tuple_pattern-returns-in-Some-clause-answers
tuple_pattern-returns-in-Some-clause-answers t c = λ s. rule_reads (unit_rule s _ _ _ c.in-Some.ensures) c.requires (one_reads (λ x. Sign 25) _ _ tt c.in-Some.ensures)

pub tuple_pattern-returns-then-not-begins_pattern-clause-answers : goal.tuple_pattern-returns-then-not-begins_pattern-clause-answers
tuple_pattern-returns-then-not-begins_pattern-clause-answers t c = λ s. syntax (part_none_fails (tuple_rule s _ c.in_default.ensures) (open_completes s _ c.requires) c.if-not-begins_pattern.ensures)

pub tuple_pattern-returns-then-room-eq1-clause-answers : goal.tuple_pattern-returns-then-room-eq1-clause-answers
tuple_pattern-returns-then-room-eq1-clause-answers t c = λ s. deep (part_deep_fails (tuple_rule s _ c.in_default.ensures) c.if-room-eq1.true (open_completes s _ c.requires) c.if-not-begins_pattern.ensures ((end_fills 1 (omega arith)).with_ false) none_low)

pub tuple_pattern-returns-in-Err-clause-answers : goal.tuple_pattern-returns-in-Err-clause-answers
tuple_pattern-returns-in-Err-clause-answers t c = λ s. rule_fails (tuple_rule s _ c.in_default.ensures) c.requires (first_fails carries_anything (end_fills _ (omega arith)) c.in-Err.ensures.answers)

pub tuple_pattern-returns-in_default-sign_here-clause-answers : goal.tuple_pattern-returns-in_default-sign_here-clause-answers
tuple_pattern-returns-in_default-sign_here-clause-answers t c = λ s. rule_fails (tuple_rule s _ c.in_default.ensures) c.requires (then_fails carries_anything c.in-Ok.ensures.answers (comma_fails _ (omega arith) _ _ (refl, c.in_default-sign_here.ensures)))

pub tuple_pattern-returns-in-Err-more_patterns-clause-answers : goal.tuple_pattern-returns-in-Err-more_patterns-clause-answers
tuple_pattern-returns-in-Err-more_patterns-clause-answers t c = λ s. rule_fails (tuple_rule s _ c.in_default.ensures) c.requires (then_fails carries_anything c.in-Ok.ensures.answers (parts_fail (omega arith) c.in-Err-more_patterns.ensures.answers))

pub tuple_pattern-returns-in-Err-take_sign-clause-answers : goal.tuple_pattern-returns-in-Err-take_sign-clause-answers
tuple_pattern-returns-in-Err-take_sign-clause-answers t c =
    λ s. rule_fails (tuple_rule s _ c.in_default.ensures) c.requires (then_fails carries_anything c.in-Ok.ensures.answers
    (close_fails (not_ended c.in-Some-sign_here.ensures c.in-Ok-more_patterns.ensures.ends) c.in-Ok-more_patterns.ensures.answers (sign_fails _ _ _ _ c.in-Err-take_sign.ensures)))

pub tuple_pattern-returns-clause-answers : goal.tuple_pattern-returns-clause-answers
tuple_pattern-returns-clause-answers t c =
    λ s. rule_reads (tuple_rule s _ c.in_default.ensures) c.requires (then_reads carries_anything c.in-Ok.ensures.answers
    (close_reads (not_ended c.in-Some-sign_here.ensures c.in-Ok-more_patterns.ensures.ends) c.in-Ok-more_patterns.ensures.answers (one_reads (λ x. Sign 25) _ _ tt c.in-Ok-take_sign.ensures)))

pub more_patterns-returns-in-Err-clause-answers : goal.more_patterns-returns-in-Err-clause-answers
more_patterns-returns-in-Err-clause-answers t c = no_memory

pub more_patterns-returns-in-Err-push-clause-answers : goal.more_patterns-returns-in-Err-push-clause-answers
more_patterns-returns-in-Err-push-clause-answers t c = no_memory

pub more_patterns-returns-in-Err-pattern-clause-answers : goal.more_patterns-returns-in-Err-pattern-clause-answers
more_patterns-returns-in-Err-pattern-clause-answers t c =
    read_many_fails patterns_listed c.requires.room c.loop-after.invariant.items (item_fails patterns_listed c.requires.room (sign_goes_on 10 c.in-Some.ensures (omega arith)) (one_then (λ x. Sign 22) _ tt c.in-Some.ensures c.in-Err-pattern.ensures.answers))

pub more_patterns-returns-clause-answers : goal.more_patterns-returns-clause-answers
more_patterns-returns-clause-answers t c = read_many_reads patterns_listed c.requires.room c.loop-after.invariant.items (many_ends (no_item _ _ c.in_default.ensures))
