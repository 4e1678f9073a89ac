use Rattle.nv_text_parser.proofs.DeclRules.{group_of}
use Rattle.std.proofs.Common.{arith}
use Rattle.nv_text_parser.proofs.Sequence.{then_reads, then_fails, first_fails, many_fills, many_carries, rule_reads, rule_fails}
use Rattle.nv_text_parser.proofs.DeclPhrases.{group_rule, funs_listed}
use Rattle.nv_text_parser.proofs.program.group.Goals as goal

pub returns-clause-read : goal.returns-clause-read
returns-clause-read c = group_of _ c.in-Ok.ensures.read c.in-Ok-more_functions.ensures.read

pub returns-in-Err-clause-answers : goal.returns-in-Err-clause-answers
returns-in-Err-clause-answers c =
    rule_fails (group_rule _ _) (omega arith) (first_fails (many_carries funs_listed) (many_fills _) c.in-Err.ensures.answers)

pub returns-in-Err-more_functions-clause-answers : goal.returns-in-Err-more_functions-clause-answers
returns-in-Err-more_functions-clause-answers c =
    rule_fails (group_rule _ _) (omega arith) (then_fails (many_carries funs_listed) c.in-Ok.ensures.answers c.in-Err-more_functions.ensures.answers)

pub returns-clause-answers : goal.returns-clause-answers
returns-clause-answers c =
    rule_reads (group_rule _ _) (omega arith) (then_reads (many_carries funs_listed) c.in-Ok.ensures.answers c.in-Ok-more_functions.ensures.answers)
