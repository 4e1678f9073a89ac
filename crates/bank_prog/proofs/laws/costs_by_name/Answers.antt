use Rattle.bank_prog.proofs.LawsCost.{cost-by-name}
use Rattle.bank_prog.proofs.laws.costs_by_name.Goals as goal

pub returns : goal.returns
returns c = cost-by-name
