use Rattle.uc_isa.proofs.Relocation.{does-moved}
use Rattle.uc_isa.proofs.executions_laws.relocated_does_the_same.Goals as goal

pub returns : goal.returns
returns c = does-moved
