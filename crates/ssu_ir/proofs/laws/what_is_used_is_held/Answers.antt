use Rattle.ssu_ir.proofs.Liveness.{points_held}
use Rattle.ssu_ir.proofs.laws.what_is_used_is_held.Goals as goal

pub returns : goal.returns
returns c = points_held
