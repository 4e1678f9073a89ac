use Rattle.nv_base.proofs.Environments.{blank-env, assigned-env, assigned-all-env, atom-fits, atoms-fit, prim-fits}
use Rattle.nv_base.proofs.Operands.{count_of_known}
use Rattle.nv_base.proofs.laws.environments_stay_words.Goals as goal

pub returns-clause-blank : goal.returns-clause-blank
returns-clause-blank c = blank-env

pub returns-clause-one : goal.returns-clause-one
returns-clause-one c = assigned-env

pub returns-clause-many : goal.returns-clause-many
returns-clause-many c = assigned-all-env

pub returns-clause-operand : goal.returns-clause-operand
returns-clause-operand c = atom-fits

pub returns-clause-operands : goal.returns-clause-operands
returns-clause-operands c = atoms-fit

pub returns-clause-primitive : goal.returns-clause-primitive
returns-clause-primitive c = prim-fits

pub returns-clause-formed : goal.returns-clause-formed
returns-clause-formed c = λ env known p h e. prim-fits env p h (count_of_known known p e)
