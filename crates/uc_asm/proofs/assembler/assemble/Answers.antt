use Rattle.uc_asm.proofs.Exact.{given-answer, syntax-answer, label-answer, unlawful-answer}
use Rattle.uc_asm.proofs.assembler.assemble.Goals as goal

pub returns-clause-given : goal.returns-clause-given
returns-clause-given c = given-answer c.args.text.now c.assembled.result c.assembled.ensures.code c.assembled.ensures.error

pub returns-clause-syntax : goal.returns-clause-syntax
returns-clause-syntax c = syntax-answer c.args.text.now c.assembled.result c.assembled.ensures.code c.assembled.ensures.error

pub returns-clause-label : goal.returns-clause-label
returns-clause-label c = label-answer c.args.text.now c.assembled.result c.assembled.ensures.code c.assembled.ensures.error

pub returns-clause-unlawful : goal.returns-clause-unlawful
returns-clause-unlawful c = unlawful-answer c.args.text.now c.assembled.result c.assembled.ensures.code c.assembled.ensures.error
