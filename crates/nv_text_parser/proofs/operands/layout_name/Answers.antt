use Rattle.nv_text_parser.proofs.Sequence.{then_fills, sign_fails}
use Rattle.nv_text_parser.proofs.ExprRules.{name_of_brackets}
use Rattle.nv_text_parser.proofs.ExprStarts.{sign_fills, name_fills}
use Rattle.nv_text_parser.proofs.ExprExits.{read_sign, then_sign, then_name, past_sign, past_name, no_sign, no_name}
use Rattle.nv_text_parser.proofs.operands.layout_name.Goals as goal

pub returns-in-Err-clause-answers : goal.returns-in-Err-clause-answers
returns-in-Err-clause-answers c = λ n. no_sign 28 _ (then_fills (name_fills n) (sign_fills 29 n)) c.in-Err.ensures

pub returns-in-Err-take_name-clause-answers : goal.returns-in-Err-take_name-clause-answers
returns-in-Err-take_name-clause-answers c = λ n. past_sign 28 _ c.in-Ok.ensures (no_name _ (sign_fills 29 n) c.in-Err-take_name.ensures)

pub returns-in-Err-take_sign-clause-answers : goal.returns-in-Err-take_sign-clause-answers
returns-in-Err-take_sign-clause-answers c = λ n. past_sign 28 _ c.in-Ok.ensures (past_name _ _ c.in-Ok-take_name.ensures (sign_fails 29 n _ _ c.in-Err-take_sign.ensures))

pub returns-clause-answers : goal.returns-clause-answers
returns-clause-answers c = λ n. then_sign 28 _ c.in-Ok.ensures (then_name _ _ c.in-Ok-take_name.ensures (read_sign 29 n _ c.in-Ok-take_sign.ensures))

pub returns-clause-read : goal.returns-clause-read
returns-clause-read c = name_of_brackets _ _ _ c.in-Ok.ensures c.in-Ok-take_name.ensures c.in-Ok-take_sign.ensures
