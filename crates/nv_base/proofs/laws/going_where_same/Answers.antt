use Rattle.nv_base.proofs.Going.{going_from_same}
use Rattle.nv_base.proofs.laws.going_where_same.Goals as goal

pub returns : goal.returns
returns c = going_from_same
