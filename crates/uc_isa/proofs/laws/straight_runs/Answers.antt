use Rattle.uc_isa.proofs.Runs.{reaches-one, reaches-then, runs-halt}
use Rattle.uc_isa.proofs.laws.straight_runs.Goals as goal

pub returns-clause-one : goal.returns-clause-one
returns-clause-one c = λ code p e e' h. reaches-one code p e e' h

pub returns-clause-more : goal.returns-clause-more
returns-clause-more c = λ code p n m e e' e'' a b. reaches-then code p n m e e' e'' a b

pub returns-clause-halt : goal.returns-clause-halt
returns-clause-halt c = λ code k words e p ws h. runs-halt code k words e p ws h
