use Rattle.uc_isa.proofs.PieceSteps.{leads-alu, leads-un, leads-immed}
use Rattle.uc_isa.proofs.pieces.operations_lead_on.Goals as goal

pub returns-clause-alu : goal.returns-clause-alu
returns-clause-alu c = λ code base d op x y a h. leads-alu code base d op x y a h

pub returns-clause-un : goal.returns-clause-un
returns-clause-un c = λ code base d op x a h. leads-un code base d op x a h

pub returns-clause-immed : goal.returns-clause-immed
returns-clause-immed c = λ code base d v s a h. leads-immed code base d v s a h
