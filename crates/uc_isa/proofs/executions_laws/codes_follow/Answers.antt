use Rattle.uc_isa.proofs.Following.{follows-refl, follows-trans, agrees-there, agrees-back, assumes-there}
use Rattle.uc_isa.proofs.EntryLemmas.{visited-along}
use Rattle.uc_isa.proofs.executions_laws.codes_follow.Goals as goal

pub returns-clause-same : goal.returns-clause-same
returns-clause-same c = follows-refl

pub returns-clause-on : goal.returns-clause-on
returns-clause-on c = follows-trans

pub returns-clause-agrees : goal.returns-clause-agrees
returns-clause-agrees c = λ params source code code' starts starts' few count f. (λ h. agrees-there params source code code' starts starts' few count f h, λ h. agrees-back params source code code' starts starts' few count f h)

pub returns-clause-visited : goal.returns-clause-visited
returns-clause-visited c = visited-along

pub returns-clause-assumes : goal.returns-clause-assumes
returns-clause-assumes c = assumes-there
