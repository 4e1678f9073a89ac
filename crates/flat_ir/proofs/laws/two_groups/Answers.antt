use Rattle.flat_ir.proofs.Worked.{two_groups}
use Rattle.flat_ir.proofs.laws.two_groups.Goals as goal

pub returns : goal.returns
returns c = two_groups
