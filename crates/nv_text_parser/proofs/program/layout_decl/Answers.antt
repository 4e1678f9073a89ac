use Rattle.nv_text_parser.proofs.DeclRules.{layout_decl_of}
use Rattle.std.proofs.Common.{arith}
use Rattle.nv_ast.specs.declared.token.Sort.TheVariants.{Word, Sign}
use Rattle.nv_text_parser.proofs.Sequence.{carries_anything, one_reads, one_then, one_fills, then_reads, then_fails, first_fails, sign_fails, name_fails, rule_reads, rule_fails}
use Rattle.nv_text_parser.proofs.DeclPhrases.{layout_rule, layout_row_fills, is_fills, layout_carries}
use Rattle.nv_text_parser.proofs.program.layout_decl.Goals as goal

pub returns-clause-read : goal.returns-clause-read
returns-clause-read c = rw c.joined.ensures (layout_decl_of _ _ _ _ c.in-Ok.ensures c.in-Ok-take_sign.ensures c.in-Ok-layout.ensures.read c.in-Ok-take_sign-2.ensures)

pub returns-in-Err-clause-answers : goal.returns-in-Err-clause-answers
returns-in-Err-clause-answers c =
    rule_fails (layout_rule _ _) (omega arith) (first_fails carries_anything is_fills (name_fails _ _ _ c.in-Err.ensures))

pub returns-in-Err-take_sign-clause-answers : goal.returns-in-Err-take_sign-clause-answers
returns-in-Err-take_sign-clause-answers c =
    rule_fails (layout_rule _ _) (omega arith) (one_then Word _ _ c.in-Ok.ensures (first_fails carries_anything layout_row_fills (sign_fails _ _ _ _ c.in-Err-take_sign.ensures)))

pub returns-in-Err-layout-clause-answers : goal.returns-in-Err-layout-clause-answers
returns-in-Err-layout-clause-answers c =
    rule_fails (layout_rule _ _) (omega arith) (one_then Word _ _ c.in-Ok.ensures (one_then (λ x. Sign 19) _ tt c.in-Ok-take_sign.ensures (first_fails layout_carries (one_fills _ tt) c.in-Err-layout.ensures.answers)))

pub returns-in-Err-take_sign-2-clause-answers : goal.returns-in-Err-take_sign-2-clause-answers
returns-in-Err-take_sign-2-clause-answers c =
    rule_fails (layout_rule _ _) (omega arith) (one_then Word _ _ c.in-Ok.ensures (one_then (λ x. Sign 19) _ tt c.in-Ok-take_sign.ensures (then_fails layout_carries c.in-Ok-layout.ensures.answers (sign_fails _ _ _ _ c.in-Err-take_sign-2.ensures))))

pub returns-clause-answers : goal.returns-clause-answers
returns-clause-answers c =
    rule_reads (layout_rule _ _) (omega arith) (then_reads carries_anything (one_reads Word _ _ _ c.in-Ok.ensures) (then_reads carries_anything (one_reads (λ x. Sign 19) _ _ tt c.in-Ok-take_sign.ensures) (then_reads layout_carries c.in-Ok-layout.ensures.answers (one_reads (λ x. Sign 20) _ _ tt c.in-Ok-take_sign-2.ensures))))
