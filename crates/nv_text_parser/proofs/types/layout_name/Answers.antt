use Rattle.std.proofs.Common.{[]}
use Rattle.nv_ast.specs.declared.token.Sort.TheVariants.{Word, Sign}
use Rattle.nv_text_parser.proofs.Sequence.{carries_anything, one_reads, one_then, one_fills, then_fills, then_reads, first_fails, name_fails, sign_fails}
use Rattle.nv_text_parser.proofs.types.layout_name.Goals as goal

pub returns-in-Err-clause-answers : goal.returns-in-Err-clause-answers
returns-in-Err-clause-answers c =
    λ room. first_fails carries_anything (then_fills (one_fills room []) (one_fills room tt)) (sign_fails _ _ _ _ c.in-Err.ensures)

pub returns-in-Err-take_name-clause-answers : goal.returns-in-Err-take_name-clause-answers
returns-in-Err-take_name-clause-answers c =
    λ room. one_then (λ x. Sign 24) _ tt c.in-Ok.ensures (first_fails carries_anything (one_fills room tt) (name_fails _ _ _ c.in-Err-take_name.ensures))

pub returns-in-Err-take_sign-clause-answers : goal.returns-in-Err-take_sign-clause-answers
returns-in-Err-take_sign-clause-answers c =
    λ room. one_then (λ x. Sign 24) _ tt c.in-Ok.ensures (one_then Word _ _ c.in-Ok-take_name.ensures (sign_fails _ _ _ _ c.in-Err-take_sign.ensures))

pub returns-clause-answers : goal.returns-clause-answers
returns-clause-answers c =
    λ room. then_reads carries_anything (one_reads (λ x. Sign 24) room _ tt c.in-Ok.ensures) (then_reads carries_anything (one_reads Word room _ _ c.in-Ok-take_name.ensures) (one_reads (λ x. Sign 25) room _ tt c.in-Ok-take_sign.ensures))
