use Rattle.nv_ast.specs.Grammar.{empty_types}
use Rattle.nv_text_parser.proofs.Rules.{types_of}
use Rattle.nv_text_parser.proofs.Sequence.{row_reads, row_fails, first_fails, then_fails, then_reads, many_fills, many_carries}
use Rattle.nv_text_parser.proofs.TypeRules.{types_rule, types_end, types_listed}
use Rattle.nv_text_parser.proofs.types.types.Goals as goal

pub returns-in-Some-clause-read : goal.returns-in-Some-clause-read
returns-in-Some-clause-read c = rw c.new.ensures.items empty_types

pub returns-clause-read : goal.returns-clause-read
returns-clause-read c = types_of c.in-Ok.ensures.read c.in-Ok-more_types.ensures.read

pub returns-in-Some-clause-answers : goal.returns-in-Some-clause-answers
returns-in-Some-clause-answers c =
    types_end _ _ _ c.in-Some.ensures

pub returns-in-Err-clause-answers : goal.returns-in-Err-clause-answers
returns-in-Err-clause-answers c =
    row_fails (types_rule _ c.in_default.ensures) c.requires (first_fails (many_carries types_listed) (many_fills _) c.in-Err.ensures.answers)

pub returns-in-Err-more_types-clause-answers : goal.returns-in-Err-more_types-clause-answers
returns-in-Err-more_types-clause-answers c =
    row_fails (types_rule _ c.in_default.ensures) c.requires (then_fails (many_carries types_listed) c.in-Ok.ensures.answers c.in-Err-more_types.ensures.answers)

pub returns-clause-answers : goal.returns-clause-answers
returns-clause-answers c =
    row_reads (types_rule _ c.in_default.ensures) c.requires (then_reads (many_carries types_listed) c.in-Ok.ensures.answers c.in-Ok-more_types.ensures.answers)
