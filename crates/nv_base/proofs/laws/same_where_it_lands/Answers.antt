use Rattle.nv_base.proofs.Same.{same_lands}
use Rattle.nv_base.proofs.laws.same_where_it_lands.Goals as goal

pub returns : goal.returns
returns c = same_lands
