use Rattle.nv_text_parser.proofs.DeclRules.{exception_decl_of}
use Rattle.std.proofs.Common.{arith}
use Rattle.nv_ast.specs.declared.token.Sort.TheVariants.{Word, Sign}
use Rattle.nv_text_parser.proofs.Sequence.{carries_anything, one_reads, one_then, one_fills, then_reads, then_fails, first_fails, sign_fails, name_fails, rule_reads, rule_fails}
use Rattle.nv_text_parser.proofs.DeclPhrases.{exception_rule, types_row_fills, exception_open_fills, end_fills, types_carries}
use Rattle.nv_text_parser.proofs.program.exception_decl.Goals as goal

pub returns-clause-read : goal.returns-clause-read
returns-clause-read c =
    rw c.joined.ensures (exception_decl_of _ _ _ _ _ c.in-Ok.ensures c.in-Ok-take_sign.ensures c.in-Ok-types.ensures.read c.in-Ok-take_sign-2.ensures c.in-Ok-take_sign-3.ensures)

pub returns-in-Err-clause-answers : goal.returns-in-Err-clause-answers
returns-in-Err-clause-answers c =
    rule_fails (exception_rule _ _) (omega arith) (first_fails carries_anything exception_open_fills (name_fails _ _ _ c.in-Err.ensures))

pub returns-in-Err-take_sign-clause-answers : goal.returns-in-Err-take_sign-clause-answers
returns-in-Err-take_sign-clause-answers c =
    rule_fails (exception_rule _ _) (omega arith) (one_then Word _ _ c.in-Ok.ensures (first_fails carries_anything types_row_fills (sign_fails _ _ _ _ c.in-Err-take_sign.ensures)))

pub returns-in-Err-types-clause-answers : goal.returns-in-Err-types-clause-answers
returns-in-Err-types-clause-answers c =
    rule_fails (exception_rule _ _) (omega arith) (one_then Word _ _ c.in-Ok.ensures (one_then (λ x. Sign 28) _ tt c.in-Ok-take_sign.ensures (first_fails types_carries end_fills c.in-Err-types.ensures.answers)))

pub returns-in-Err-take_sign-2-clause-answers : goal.returns-in-Err-take_sign-2-clause-answers
returns-in-Err-take_sign-2-clause-answers c =
    rule_fails (exception_rule _ _) (omega arith) (one_then Word _ _ c.in-Ok.ensures (one_then (λ x. Sign 28) _ tt c.in-Ok-take_sign.ensures (then_fails types_carries c.in-Ok-types.ensures.answers (first_fails carries_anything (one_fills _ tt) (sign_fails _ _ _ _ c.in-Err-take_sign-2.ensures)))))

pub returns-in-Err-take_sign-3-clause-answers : goal.returns-in-Err-take_sign-3-clause-answers
returns-in-Err-take_sign-3-clause-answers c =
    rule_fails (exception_rule _ _) (omega arith) (one_then Word _ _ c.in-Ok.ensures (one_then (λ x. Sign 28) _ tt c.in-Ok-take_sign.ensures (then_fails types_carries c.in-Ok-types.ensures.answers (one_then (λ x. Sign 29) _ tt c.in-Ok-take_sign-2.ensures (sign_fails _ _ _ _ c.in-Err-take_sign-3.ensures)))))

pub returns-clause-answers : goal.returns-clause-answers
returns-clause-answers c =
    rule_reads (exception_rule _ _) (omega arith) (then_reads carries_anything (one_reads Word _ _ _ c.in-Ok.ensures) (then_reads carries_anything (one_reads (λ x. Sign 28) _ _ tt c.in-Ok-take_sign.ensures) (then_reads types_carries c.in-Ok-types.ensures.answers (then_reads carries_anything (one_reads (λ x. Sign 29) _ _ tt c.in-Ok-take_sign-2.ensures) (one_reads (λ x. Sign 20) _ _ tt c.in-Ok-take_sign-3.ensures)))))
