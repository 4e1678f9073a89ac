use Rattle.bank_prog.proofs.LawsCost.{weighted-by-name}
use Rattle.bank_prog.proofs.laws.weighted_costs_by_name.Goals as goal

pub returns : goal.returns
returns c = weighted-by-name
