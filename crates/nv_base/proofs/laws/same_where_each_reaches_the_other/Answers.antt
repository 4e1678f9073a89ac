use Rattle.nv_base.proofs.Same.{same_from}
use Rattle.nv_base.proofs.laws.same_where_each_reaches_the_other.Goals as goal

pub returns : goal.returns
returns c = same_from
