use Rattle.nv_base.proofs.WordLemmas.{prim-agrees}
use Rattle.nv_base.proofs.laws.a_primitive_depends_on_its_variables.Goals as goal

pub returns : goal.returns
returns c = prim-agrees
