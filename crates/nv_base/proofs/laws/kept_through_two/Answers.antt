use Rattle.nv_base.proofs.Same.{keeps-trans}
use Rattle.nv_base.proofs.laws.kept_through_two.Goals as goal

pub returns : goal.returns
returns c = keeps-trans
