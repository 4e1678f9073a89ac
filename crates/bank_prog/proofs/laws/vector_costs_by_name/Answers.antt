use Rattle.bank_prog.proofs.LawsCost.{costs-by-name}
use Rattle.bank_prog.proofs.laws.vector_costs_by_name.Goals as goal

pub returns : goal.returns
returns c = costs-by-name
