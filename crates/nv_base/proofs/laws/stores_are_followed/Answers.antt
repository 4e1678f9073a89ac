use Rattle.nv_base.proofs.Accesses.{store-follows}
use Rattle.nv_base.proofs.laws.stores_are_followed.Goals as goal

pub returns : goal.returns
returns c = store-follows
