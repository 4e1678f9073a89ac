use Rattle.nv_ast.specs.Grammar.{empty_params}
use Rattle.nv_text_parser.proofs.Rules.{params_of}
use Rattle.nv_ast.specs.declared.token.Sort.TheVariants.{Word, Sign}
use Rattle.nv_text_parser.proofs.Sequence.{row_reads, row_fails, first_fails, then_fails, then_reads, many_fills, many_carries, carries_anything, name_fails, sign_fails, one_reads, one_then}
use Rattle.nv_text_parser.proofs.TypeRules.{params_rule, params_end, named_listed, type_fills, colon_fills}
use Rattle.nv_text_parser.proofs.types.params.Goals as goal

pub returns-in-Some-clause-read : goal.returns-in-Some-clause-read
returns-in-Some-clause-read c = rw c.new.ensures.items empty_params

pub returns-clause-read : goal.returns-clause-read
returns-clause-read c = params_of _ _ c.in-Ok.ensures c.in-Ok-take_sign.ensures c.in-Ok-type_text.ensures.read c.in-Ok-more_named_types.ensures.read

pub returns-in-Some-clause-answers : goal.returns-in-Some-clause-answers
returns-in-Some-clause-answers c =
    params_end _ _ _ c.in-Some.ensures

pub returns-in-Err-clause-answers : goal.returns-in-Err-clause-answers
returns-in-Err-clause-answers c =
    row_fails (params_rule _ c.in_default.ensures) c.requires (first_fails (many_carries named_listed) (many_fills _) (first_fails carries_anything (colon_fills _ c.requires) (name_fails _ _ _ c.in-Err.ensures)))

pub returns-in-Err-take_sign-clause-answers : goal.returns-in-Err-take_sign-clause-answers
returns-in-Err-take_sign-clause-answers c =
    row_fails (params_rule _ c.in_default.ensures) c.requires (first_fails (many_carries named_listed) (many_fills _) (one_then Word _ _ c.in-Ok.ensures (first_fails carries_anything (type_fills _ c.requires) (sign_fails _ _ _ _ c.in-Err-take_sign.ensures))))

pub returns-in-Err-type_text-clause-answers : goal.returns-in-Err-type_text-clause-answers
returns-in-Err-type_text-clause-answers c =
    row_fails (params_rule _ c.in_default.ensures) c.requires (first_fails (many_carries named_listed) (many_fills _) (one_then Word _ _ c.in-Ok.ensures (one_then (λ x. Sign 21) _ tt c.in-Ok-take_sign.ensures c.in-Err-type_text.ensures.answers)))

pub returns-in-Err-more_named_types-clause-answers : goal.returns-in-Err-more_named_types-clause-answers
returns-in-Err-more_named_types-clause-answers c =
    row_fails (params_rule _ c.in_default.ensures) c.requires (then_fails (many_carries named_listed) (then_reads carries_anything (one_reads Word _ _ _ c.in-Ok.ensures) (then_reads carries_anything (one_reads (λ x. Sign 21) _ _ tt c.in-Ok-take_sign.ensures) c.in-Ok-type_text.ensures.answers)) c.in-Err-more_named_types.ensures.answers)

pub returns-clause-answers : goal.returns-clause-answers
returns-clause-answers c =
    row_reads (params_rule _ c.in_default.ensures) c.requires (then_reads (many_carries named_listed) (then_reads carries_anything (one_reads Word _ _ _ c.in-Ok.ensures) (then_reads carries_anything (one_reads (λ x. Sign 21) _ _ tt c.in-Ok-take_sign.ensures) c.in-Ok-type_text.ensures.answers)) c.in-Ok-more_named_types.ensures.answers)
