use Rattle.uc_isa.proofs.Steps.{run-going, run-going_only}
use Rattle.uc_isa.proofs.laws.going_where_no_step_ends.Goals as goal

pub returns : goal.returns
returns c = λ code n e p ws. (λ h. run-going_only code n e p ws h, λ h. run-going code n e p ws h)
