use Rattle.flat_ir.proofs.Growth.{meaning-grows}
use Rattle.flat_ir.proofs.laws.more_calls_go_on.Goals as goal

pub returns : goal.returns
returns c = meaning-grows
