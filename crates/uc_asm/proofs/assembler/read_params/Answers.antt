use Rattle.uc_asm.proofs.TextLemmas.{first-wrong, first-short}
use Rattle.uc_asm.proofs.assembler.read_params.Goals as goal

pub returns-in_default-clause-error : goal.returns-in_default-clause-error
returns-in_default-clause-error c = first-short c.args.lines.now c.in_default.ensures.none

pub returns-in-None-clause-error : goal.returns-in-None-clause-error
returns-in-None-clause-error c = first-wrong c.args.lines.now c.in-Some.line.now c.next_line.new.self c.in-Some.ensures.line c.in-Some.ensures.one c.in-None.ensures.none
