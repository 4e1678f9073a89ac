use Rattle.uc_isa.proofs.PieceSteps.{leads-taken, leads-passed}
use Rattle.uc_isa.proofs.pieces.branches_lead_on.Goals as goal

pub returns-clause-taken : goal.returns-clause-taken
returns-clause-taken c = λ code base cond target a h t. leads-taken code base cond target a h t

pub returns-clause-passed : goal.returns-clause-passed
returns-clause-passed c = λ code base cond target a h t. leads-passed code base cond target a h t
