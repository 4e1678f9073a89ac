use Rattle.nv_base.proofs.Same.{same_seen}
use Rattle.nv_base.proofs.laws.same_where_seen_alike.Goals as goal

pub returns : goal.returns
returns c = same_seen
