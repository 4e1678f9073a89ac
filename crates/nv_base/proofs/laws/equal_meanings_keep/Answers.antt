use Rattle.nv_base.proofs.Same.{keeps-equal, follows-equal}
use Rattle.nv_base.proofs.laws.equal_meanings_keep.Goals as goal

pub returns-clause-outcomes : goal.returns-clause-outcomes
returns-clause-outcomes c = keeps-equal

pub returns-clause-memories : goal.returns-clause-memories
returns-clause-memories c = follows-equal
