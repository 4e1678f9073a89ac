use Rattle.nv_base.proofs.Same.{same-refl, same-sym, same-trans}
use Rattle.nv_base.proofs.laws.same_is_an_equivalence.Goals as goal

pub returns-clause-reflexive : goal.returns-clause-reflexive
returns-clause-reflexive c = same-refl

pub returns-clause-symmetric : goal.returns-clause-symmetric
returns-clause-symmetric c = same-sym

pub returns-clause-transitive : goal.returns-clause-transitive
returns-clause-transitive c = same-trans
