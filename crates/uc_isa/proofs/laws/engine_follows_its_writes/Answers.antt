use Rattle.uc_isa.proofs.Steps.{engine-stepwise, engine-grows}
use Rattle.uc_isa.proofs.Follows.{engine-follows}
use Rattle.uc_isa.proofs.laws.engine_follows_its_writes.Goals as goal

pub returns-clause-stepwise : goal.returns-clause-stepwise
returns-clause-stepwise c = λ code args base p. engine-stepwise code args base p

pub returns-clause-grows : goal.returns-clause-grows
returns-clause-grows c = λ code args base p. engine-grows code args base p

pub returns-clause-follows : goal.returns-clause-follows
returns-clause-follows c = λ code args base p. engine-follows code args base p
