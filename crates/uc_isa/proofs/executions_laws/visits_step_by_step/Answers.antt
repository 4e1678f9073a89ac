use Rattle.uc_isa.proofs.Counting.{stood-more}
use Rattle.uc_isa.proofs.executions_laws.visits_step_by_step.Goals as goal

pub returns : goal.returns
returns c = stood-more
