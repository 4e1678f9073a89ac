use Rattle.uc_isa.proofs.Costs.{moves-append, moves-level, label-same, label-moved}
use Rattle.uc_isa.proofs.executions_laws.moves_by_parts.Goals as goal

pub returns-clause-parts : goal.returns-clause-parts
returns-clause-parts c = moves-append

pub returns-clause-level : goal.returns-clause-level
returns-clause-level c = moves-level

pub returns-clause-same : goal.returns-clause-same
returns-clause-same c = label-same

pub returns-clause-moved : goal.returns-clause-moved
returns-clause-moved c = label-moved
