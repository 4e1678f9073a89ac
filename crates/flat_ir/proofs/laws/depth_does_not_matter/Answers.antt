use Rattle.flat_ir.proofs.Depth.{depth-same}
use Rattle.flat_ir.proofs.laws.depth_does_not_matter.Goals as goal

pub returns : goal.returns
returns c = depth-same
