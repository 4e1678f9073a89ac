use Rattle.uc_isa.proofs.Steps.{run-add, run-over}
use Rattle.uc_isa.proofs.laws.runs_go_on.Goals as goal

pub returns-clause-going : goal.returns-clause-going
returns-clause-going c = λ code n m e p ws h. run-add code n m e p ws h

pub returns-clause-over : goal.returns-clause-over
returns-clause-over c = λ code n m e p ws h. run-over code n m e p ws h
