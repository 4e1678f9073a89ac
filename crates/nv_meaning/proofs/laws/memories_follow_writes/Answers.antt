use Rattle.nv_meaning.proofs.Follows.{source-follows}
use Rattle.nv_meaning.proofs.laws.memories_follow_writes.Goals as goal

pub returns : goal.returns
returns c = source-follows
