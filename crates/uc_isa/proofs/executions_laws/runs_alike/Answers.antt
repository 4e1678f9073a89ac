use Rattle.uc_isa.proofs.Lockstep.{alike-refl, alike-trans}
use Rattle.uc_isa.proofs.executions_laws.runs_alike.Goals as goal

pub returns-clause-same : goal.returns-clause-same
returns-clause-same c = alike-refl

pub returns-clause-on : goal.returns-clause-on
returns-clause-on c = alike-trans
