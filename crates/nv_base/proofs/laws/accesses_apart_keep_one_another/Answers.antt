use Rattle.nv_base.proofs.Frames.{fetched-elsewhere, stored-order, applied-order, applied-size}
use Rattle.nv_base.proofs.laws.accesses_apart_keep_one_another.Goals as goal

pub returns-clause-fetched : goal.returns-clause-fetched
returns-clause-fetched c = fetched-elsewhere

pub returns-clause-stored : goal.returns-clause-stored
returns-clause-stored c = stored-order

pub returns-clause-writes : goal.returns-clause-writes
returns-clause-writes c = applied-order

pub returns-clause-sizes : goal.returns-clause-sizes
returns-clause-sizes c = applied-size
