use Rattle.nv_base.proofs.Same.{monotone_by_steps}
use Rattle.nv_base.proofs.laws.monotone_by_steps.Goals as goal

pub returns : goal.returns
returns c = monotone_by_steps
