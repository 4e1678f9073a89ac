use Rattle.nv_text_parser.proofs.Sequence.{behind_reads, behind_fails, token_fails}
use Rattle.nv_text_parser.proofs.DeclPhrases.{decl_completes, decl_starts_none}
use Rattle.nv_text_parser.proofs.program.declaration.Goals as goal

pub returns-in-Err-clause-answers : goal.returns-in-Err-clause-answers
returns-in-Err-clause-answers c =
    behind_fails _ c.in-Some.ensures c.in-Err.ensures.answers

pub returns-in-Some-clause-answers : goal.returns-in-Some-clause-answers
returns-in-Some-clause-answers c =
    behind_reads _ c.in-Some.ensures c.in-Ok.ensures.answers

pub returns-in-Err-layout_decl-clause-answers : goal.returns-in-Err-layout_decl-clause-answers
returns-in-Err-layout_decl-clause-answers c =
    behind_fails _ c.in-Some-key_here.ensures c.in-Err-layout_decl.ensures.answers

pub returns-in-Some-key_here-clause-answers : goal.returns-in-Some-key_here-clause-answers
returns-in-Some-key_here-clause-answers c =
    behind_reads _ c.in-Some-key_here.ensures c.in-Ok-layout_decl.ensures.answers

pub returns-in-Err-take_key-clause-answers : goal.returns-in-Err-take_key-clause-answers
returns-in-Err-take_key-clause-answers c =
    token_fails _ _ decl_completes (decl_starts_none c.in_default.ensures c.in_default-key_here.ensures c.in-Err-take_key.ensures.1) c.in-Err-take_key.ensures.0

pub returns-in-Err-exception_decl-clause-answers : goal.returns-in-Err-exception_decl-clause-answers
returns-in-Err-exception_decl-clause-answers c =
    behind_fails _ c.in-Ok-take_key.ensures c.in-Err-exception_decl.ensures.answers

pub returns-clause-answers : goal.returns-clause-answers
returns-clause-answers c =
    behind_reads _ c.in-Ok-take_key.ensures c.in-Ok-exception_decl.ensures.answers
