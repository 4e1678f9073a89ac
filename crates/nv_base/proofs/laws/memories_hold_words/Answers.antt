use Rattle.nv_base.proofs.MemoryLemmas.{stored-sizes, fetched-words}
use Rattle.nv_base.proofs.laws.memories_hold_words.Goals as goal

pub returns-clause-stored : goal.returns-clause-stored
returns-clause-stored c = stored-sizes

pub returns-clause-fetched : goal.returns-clause-fetched
returns-clause-fetched c = fetched-words
