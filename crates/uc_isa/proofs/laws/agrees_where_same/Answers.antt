use Rattle.uc_isa.proofs.Agreement.{agrees-where_same}
use Rattle.uc_isa.proofs.laws.agrees_where_same.Goals as goal

pub returns : goal.returns
returns c = λ params source code parameters same follows spills. agrees-where_same params source code parameters same follows spills
