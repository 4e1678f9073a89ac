use Rattle.uc_isa.proofs.PieceSteps.{ends-halt}
use Rattle.uc_isa.proofs.pieces.halts_end_runs.Goals as goal

pub returns : goal.returns
returns c = λ code base k n ws a h w. ends-halt code base k n ws a h w
