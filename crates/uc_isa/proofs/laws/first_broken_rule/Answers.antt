use Rattle.uc_isa.proofs.FirstBroken.{first-one, first-unlawful}
use Rattle.uc_isa.proofs.laws.first_broken_rule.Goals as goal

pub returns-clause-one : goal.returns-clause-one
returns-clause-one c = λ code place rule place' rule' h h'. first-one code place rule place' rule' h h'

pub returns-clause-unlawful : goal.returns-clause-unlawful
returns-clause-unlawful c = λ code place rule h lawful. first-unlawful code place rule h lawful
