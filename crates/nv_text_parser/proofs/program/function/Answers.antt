use Rattle.nv_text_parser.proofs.DeclRules.{function_of}
use Rattle.std.proofs.Common.{arith}
use Rattle.nv_ast.specs.declared.token.Sort.TheVariants.{Word, Sign}
use Rattle.nv_text_parser.proofs.Sequence.{carries_anything, one_reads, one_then, one_fills, then_reads, then_fails, first_fails, sign_fails, name_fails, row_reads, row_fails}
use Rattle.nv_text_parser.proofs.DeclPhrases.{fun_rule, body_fills, brace_fills, result_fills, colon_fills, bracket_fills, params_row_fills, open_fills, params_carries, result_carries, body_carries}
use Rattle.nv_text_parser.proofs.program.function.Goals as goal

pub returns-clause-read : goal.returns-clause-read
returns-clause-read c =
    rw c.joined.ensures (function_of _ _ _ _ _ _ c.in-Ok.ensures c.in-Ok-take_sign.ensures c.in-Ok-params.ensures.read c.in-Ok-take_sign-2.ensures c.in-Ok-take_sign-3.ensures
    c.in-Ok-type_text.ensures.read c.in-Ok-take_sign-4.ensures c.in-Ok-expr.ensures.read c.in-Ok-take_sign-5.ensures)

pub returns-in-Err-clause-answers : goal.returns-in-Err-clause-answers
returns-in-Err-clause-answers c =
    row_fails (fun_rule _) (omega arith) (first_fails carries_anything open_fills (name_fails _ _ _ c.in-Err.ensures))

pub returns-in-Err-take_sign-clause-answers : goal.returns-in-Err-take_sign-clause-answers
returns-in-Err-take_sign-clause-answers c =
    row_fails (fun_rule _) (omega arith) (one_then Word _ _ c.in-Ok.ensures (first_fails carries_anything params_row_fills (sign_fails _ _ _ _ c.in-Err-take_sign.ensures)))

pub returns-in-Err-params-clause-answers : goal.returns-in-Err-params-clause-answers
returns-in-Err-params-clause-answers c =
    row_fails (fun_rule _) (omega arith) (one_then Word _ _ c.in-Ok.ensures (one_then (λ x. Sign 28) _ tt c.in-Ok-take_sign.ensures (first_fails params_carries bracket_fills c.in-Err-params.ensures.answers)))

pub returns-in-Err-take_sign-2-clause-answers : goal.returns-in-Err-take_sign-2-clause-answers
returns-in-Err-take_sign-2-clause-answers c =
    row_fails (fun_rule _) (omega arith) (one_then Word _ _ c.in-Ok.ensures (one_then (λ x. Sign 28) _ tt c.in-Ok-take_sign.ensures (then_fails params_carries c.in-Ok-params.ensures.answers (first_fails carries_anything colon_fills (sign_fails _ _ _ _ c.in-Err-take_sign-2.ensures)))))

pub returns-in-Err-take_sign-3-clause-answers : goal.returns-in-Err-take_sign-3-clause-answers
returns-in-Err-take_sign-3-clause-answers c =
    row_fails (fun_rule _) (omega arith) (one_then Word _ _ c.in-Ok.ensures (one_then (λ x. Sign 28) _ tt c.in-Ok-take_sign.ensures (then_fails params_carries c.in-Ok-params.ensures.answers (one_then (λ x. Sign 29) _ tt c.in-Ok-take_sign-2.ensures (first_fails carries_anything result_fills (sign_fails _ _ _ _ c.in-Err-take_sign-3.ensures))))))

pub returns-in-Err-type_text-clause-answers : goal.returns-in-Err-type_text-clause-answers
returns-in-Err-type_text-clause-answers c =
    row_fails (fun_rule _) (omega arith) (one_then Word _ _ c.in-Ok.ensures (one_then (λ x. Sign 28) _ tt c.in-Ok-take_sign.ensures (then_fails params_carries c.in-Ok-params.ensures.answers (one_then (λ x. Sign 29) _ tt c.in-Ok-take_sign-2.ensures (one_then (λ x. Sign 21) _ tt c.in-Ok-take_sign-3.ensures (first_fails result_carries brace_fills c.in-Err-type_text.ensures.answers))))))

pub returns-in-Err-take_sign-4-clause-answers : goal.returns-in-Err-take_sign-4-clause-answers
returns-in-Err-take_sign-4-clause-answers c =
    row_fails (fun_rule _) (omega arith) (one_then Word _ _ c.in-Ok.ensures (one_then (λ x. Sign 28) _ tt c.in-Ok-take_sign.ensures (then_fails params_carries c.in-Ok-params.ensures.answers (one_then (λ x. Sign 29) _ tt c.in-Ok-take_sign-2.ensures (one_then (λ x. Sign 21) _ tt c.in-Ok-take_sign-3.ensures (then_fails result_carries c.in-Ok-type_text.ensures.answers (first_fails carries_anything body_fills (sign_fails _ _ _ _ c.in-Err-take_sign-4.ensures))))))))

pub returns-in-Err-expr-clause-answers : goal.returns-in-Err-expr-clause-answers
returns-in-Err-expr-clause-answers c =
    row_fails (fun_rule _) (omega arith) (one_then Word _ _ c.in-Ok.ensures (one_then (λ x. Sign 28) _ tt c.in-Ok-take_sign.ensures (then_fails params_carries c.in-Ok-params.ensures.answers (one_then (λ x. Sign 29) _ tt c.in-Ok-take_sign-2.ensures (one_then (λ x. Sign 21) _ tt c.in-Ok-take_sign-3.ensures (then_fails result_carries c.in-Ok-type_text.ensures.answers (one_then (λ x. Sign 26) _ tt c.in-Ok-take_sign-4.ensures (first_fails body_carries (one_fills _ tt) c.in-Err-expr.ensures.answers))))))))

pub returns-in-Err-take_sign-5-clause-answers : goal.returns-in-Err-take_sign-5-clause-answers
returns-in-Err-take_sign-5-clause-answers c =
    row_fails (fun_rule _) (omega arith) (one_then Word _ _ c.in-Ok.ensures (one_then (λ x. Sign 28) _ tt c.in-Ok-take_sign.ensures (then_fails params_carries c.in-Ok-params.ensures.answers (one_then (λ x. Sign 29) _ tt c.in-Ok-take_sign-2.ensures (one_then (λ x. Sign 21) _ tt c.in-Ok-take_sign-3.ensures (then_fails result_carries c.in-Ok-type_text.ensures.answers (one_then (λ x. Sign 26) _ tt c.in-Ok-take_sign-4.ensures (then_fails body_carries c.in-Ok-expr.ensures.answers (sign_fails _ _ _ _ c.in-Err-take_sign-5.ensures)))))))))

pub returns-clause-answers : goal.returns-clause-answers
returns-clause-answers c =
    row_reads (fun_rule _) (omega arith) (then_reads carries_anything (one_reads Word _ _ _ c.in-Ok.ensures) (then_reads carries_anything (one_reads (λ x. Sign 28) _ _ tt c.in-Ok-take_sign.ensures) (then_reads params_carries c.in-Ok-params.ensures.answers (then_reads carries_anything (one_reads (λ x. Sign 29) _ _ tt c.in-Ok-take_sign-2.ensures) (then_reads carries_anything (one_reads (λ x. Sign 21) _ _ tt c.in-Ok-take_sign-3.ensures) (then_reads result_carries c.in-Ok-type_text.ensures.answers (then_reads carries_anything (one_reads (λ x. Sign 26) _ _ tt c.in-Ok-take_sign-4.ensures) (then_reads body_carries c.in-Ok-expr.ensures.answers (one_reads (λ x. Sign 27) _ _ tt c.in-Ok-take_sign-5.ensures)))))))))
