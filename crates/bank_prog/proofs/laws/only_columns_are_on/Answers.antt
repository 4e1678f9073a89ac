use Rattle.bank_prog.proofs.LawsColumns.{on-there}
use Rattle.bank_prog.proofs.laws.only_columns_are_on.Goals as goal

pub returns : goal.returns
returns c = on-there
