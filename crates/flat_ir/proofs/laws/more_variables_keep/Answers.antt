use Rattle.flat_ir.proofs.Weaker.{formed-more, code-more}
use Rattle.flat_ir.proofs.laws.more_variables_keep.Goals as goal

pub returns-clause-formed : goal.returns-clause-formed
returns-clause-formed c = formed-more

pub returns-clause-wide : goal.returns-clause-wide
returns-clause-wide c = code-more
