use Rattle.flat_ir.proofs.Following.{meaning-follows}
use Rattle.flat_ir.proofs.laws.memories_follow_writes.Goals as goal

pub returns : goal.returns
returns c = meaning-follows
