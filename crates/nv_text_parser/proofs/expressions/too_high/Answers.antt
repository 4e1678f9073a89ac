use Rattle.std.proofs.Common.{◌≡◌, arith}
use Rattle.nv_text_parser.proofs.ExprBlocks.{too_high_one, too_high_let, too_high_two}
use Rattle.nv_text_parser.proofs.expressions.too_high.Goals as goal

pub returns-then-room-eq1 : goal.returns-then-room-eq1
returns-then-room-eq1 c = too_high_one _ c.if-room-eq1.true c.requires.starts

pub returns-in_default : goal.returns-in_default
returns-in_default c = too_high_let _ c.requires.room c.requires.small c.in_default.ensures c.requires.starts

pub returns : goal.returns
returns c = let two : c.args.room ≡ 2 = omega arith in too_high_two _ _ _ two c.in-Some.ensures c.requires.starts
