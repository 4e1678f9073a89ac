use Rattle.nv_ast.specs.Grammar.{word_type, words_type}
use Rattle.nv_ast.specs.declared.token.Sort.TheVariants.{Number, Sign}
use Rattle.nv_text_parser.proofs.Sequence.{carries_anything, one_reads, one_then, one_fills, then_reads, first_fails, number_fails, sign_fails, rule_reads, rule_fails}
use Rattle.nv_text_parser.proofs.TypeRules.{word_ends, words_rule}
use Rattle.nv_text_parser.proofs.types.words_type.Goals as goal

pub returns-in_default-clause-read : goal.returns-in_default-clause-read
returns-in_default-clause-read c = λ s. word_type

pub returns-clause-read : goal.returns-clause-read
returns-clause-read c = λ s. rw (c.in-Some.ensures, c.in-Ok.ensures, c.in-Ok-take_sign.ensures) words_type

pub returns-in_default-clause-answers : goal.returns-in_default-clause-answers
returns-in_default-clause-answers c =
    λ s room h. word_ends s room h _ c.in_default.ensures

pub returns-in-Err-clause-answers : goal.returns-in-Err-clause-answers
returns-in-Err-clause-answers c =
    λ s room h. rule_fails (words_rule s _ _ _ c.in-Some.ensures) h (one_then (λ x. Sign 28) _ tt c.in-Some.ensures (first_fails carries_anything (one_fills room tt) (number_fails _ _ _ c.in-Err.ensures)))

pub returns-in-Err-take_sign-clause-answers : goal.returns-in-Err-take_sign-clause-answers
returns-in-Err-take_sign-clause-answers c =
    λ s room h. rule_fails (words_rule s _ _ _ c.in-Some.ensures) h (one_then (λ x. Sign 28) _ tt c.in-Some.ensures (one_then Number _ _ c.in-Ok.ensures (sign_fails _ _ _ _ c.in-Err-take_sign.ensures)))

pub returns-clause-answers : goal.returns-clause-answers
returns-clause-answers c =
    λ s room h. rule_reads (words_rule s _ _ _ c.in-Some.ensures) h (then_reads carries_anything (one_reads (λ x. Sign 28) room _ tt c.in-Some.ensures) (then_reads carries_anything (one_reads Number room _ _ c.in-Ok.ensures) (one_reads (λ x. Sign 29) room _ tt c.in-Ok-take_sign.ensures)))
