use Rattle.uc_isa.proofs.PieceSteps.{leads-read, ends-read}
use Rattle.uc_isa.proofs.pieces.reads_lead_on.Goals as goal

pub returns-clause-words : goal.returns-clause-words
returns-clause-words c = λ code base m r n x off ws a h f keeps. leads-read code base m r n x off ws a h f keeps

pub returns-clause-fault : goal.returns-clause-fault
returns-clause-fault c = λ code base m r n x off a h f keeps. ends-read code base m r n x off a h f keeps
