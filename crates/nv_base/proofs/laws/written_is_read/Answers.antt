use Rattle.nv_base.proofs.MemoryLemmas.{written_read}
use Rattle.nv_base.proofs.laws.written_is_read.Goals as goal

pub returns : goal.returns
returns c = written_read
