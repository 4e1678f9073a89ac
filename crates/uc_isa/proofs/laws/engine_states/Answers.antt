use Rattle.uc_isa.proofs.States.{start-state, step-states}
use Rattle.uc_isa.proofs.laws.engine_states.Goals as goal

pub returns-clause-start : goal.returns-clause-start
returns-clause-start c = λ args base few words base_fits. start-state args base few words base_fits

pub returns-clause-step : goal.returns-clause-step
returns-clause-step c = λ code e p lawful state sizes. step-states code e p lawful state sizes
