use Rattle.uc_isa.proofs.RegisterLemmas.{operand-register, address-register, puts-flags, puts-word, fills-run}
use Rattle.uc_isa.proofs.pieces.registers_hold_what_was_put.Goals as goal

pub returns-clause-operand : goal.returns-clause-operand
returns-clause-operand c = λ x e. operand-register x e

pub returns-clause-address : goal.returns-clause-address
returns-clause-address c = λ x e. address-register x e

pub returns-clause-result_ : goal.returns-clause-result_
returns-clause-result_ c = λ d v w carry e h. puts-flags d v w carry e h

pub returns-clause-immediate : goal.returns-clause-immediate
returns-clause-immediate c = λ d v e h. puts-word d v e h

pub returns-clause-read : goal.returns-clause-read
returns-clause-read c = λ m r ws e h le. fills-run m r ws e h le
