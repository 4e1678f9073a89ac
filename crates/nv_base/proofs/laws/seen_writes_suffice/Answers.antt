use Rattle.nv_base.proofs.MemoryLemmas.{seen_follows}
use Rattle.nv_base.proofs.laws.seen_writes_suffice.Goals as goal

pub returns : goal.returns
returns c = seen_follows
