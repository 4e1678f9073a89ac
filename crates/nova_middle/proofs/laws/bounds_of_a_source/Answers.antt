use Rattle.nova_middle.proofs.SourceBounds.{size_end, code_end}
use Rattle.nova_middle.proofs.laws.bounds_of_a_source.Goals as goal

pub returns-clause-size : goal.returns-clause-size
returns-clause-size c = size_end

pub returns-clause-code : goal.returns-clause-code
returns-clause-code c = code_end
