use Rattle.ssu_ir.proofs.Growth.{meaning-grows}
use Rattle.ssu_ir.proofs.laws.more_jumps_go_on.Goals as goal

pub returns : goal.returns
returns c = meaning-grows
