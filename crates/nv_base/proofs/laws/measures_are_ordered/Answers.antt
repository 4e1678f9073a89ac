use Rattle.nv_base.proofs.Measures.{operands-more, let-more, entry-more, most-refl, most-trans, most-none, most-both}
use Rattle.nv_base.proofs.laws.measures_are_ordered.Goals as goal

pub returns-clause-operands : goal.returns-clause-operands
returns-clause-operands c = operands-more

pub returns-clause-primitive : goal.returns-clause-primitive
returns-clause-primitive c = let-more

pub returns-clause-entry : goal.returns-clause-entry
returns-clause-entry c = entry-more

pub returns-clause-reflexive : goal.returns-clause-reflexive
returns-clause-reflexive c = most-refl

pub returns-clause-transitive : goal.returns-clause-transitive
returns-clause-transitive c = most-trans

pub returns-clause-least : goal.returns-clause-least
returns-clause-least c = most-none

pub returns-clause-sums : goal.returns-clause-sums
returns-clause-sums c = most-both
