use Rattle.nv_ast.specs.Grammar.{empty_patterns}
use Rattle.nv_text_parser.proofs.Rules.{patterns_of}
use Rattle.nv_text_parser.proofs.Sequence.{row_reads, row_fails, first_fails, then_fails, then_reads, many_fills, carries_anything}
use Rattle.nv_text_parser.proofs.PatternRules.{patterns_end, some_rule}
use Rattle.nv_text_parser.proofs.patterns.patterns.Goals as goal

pub returns-in-Some-clause-read : goal.returns-in-Some-clause-read
returns-in-Some-clause-read c = rw c.new.ensures.items empty_patterns

pub returns-clause-read : goal.returns-clause-read
returns-clause-read c = patterns_of c.in-Ok.ensures.read c.in-Ok-more_patterns.ensures.read

pub returns-in-Some-clause-answers : goal.returns-in-Some-clause-answers
returns-in-Some-clause-answers c = patterns_end _ _ _ c.in-Some.ensures

pub returns-in-Err-clause-answers : goal.returns-in-Err-clause-answers
returns-in-Err-clause-answers c = row_fails (some_rule _ c.in_default.ensures) c.requires (first_fails carries_anything (many_fills _) c.in-Err.ensures.answers)

pub returns-in-Err-more_patterns-clause-answers : goal.returns-in-Err-more_patterns-clause-answers
returns-in-Err-more_patterns-clause-answers c = row_fails (some_rule _ c.in_default.ensures) c.requires (then_fails carries_anything c.in-Ok.ensures.answers c.in-Err-more_patterns.ensures.answers)

pub returns-clause-answers : goal.returns-clause-answers
returns-clause-answers c = row_reads (some_rule _ c.in_default.ensures) c.requires (then_reads carries_anything c.in-Ok.ensures.answers c.in-Ok-more_patterns.ensures.answers)
