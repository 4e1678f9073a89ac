use Rattle.flat_ir.proofs.Counted.{calls-many, code-many}
use Rattle.flat_ir.proofs.laws.words_are_as_many_as_said.Goals as goal

pub returns-clause-function : goal.returns-clause-function
returns-clause-function c = λ funs main depth f g ws now e s. calls-many depth funs main e f g ws now s

pub returns-clause-code : goal.returns-clause-code
returns-clause-code c = code-many
