use Rattle.uc_isa.proofs.PieceSteps.{leads-write, ends-write}
use Rattle.uc_isa.proofs.pieces.writes_lead_on.Goals as goal

pub returns-clause-words : goal.returns-clause-words
returns-clause-words c = λ code base m r n x off ws q a h w s keeps. leads-write code base m r n x off ws q a h w s keeps

pub returns-clause-fault : goal.returns-clause-fault
returns-clause-fault c = λ code base m r n x off ws a h w s keeps. ends-write code base m r n x off ws a h w s keeps
