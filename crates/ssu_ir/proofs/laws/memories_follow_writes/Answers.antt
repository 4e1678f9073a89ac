use Rattle.ssu_ir.proofs.Growth.{meaning-follows}
use Rattle.ssu_ir.proofs.laws.memories_follow_writes.Goals as goal

pub returns : goal.returns
returns c = meaning-follows
