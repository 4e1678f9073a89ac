use Rattle.bank_prog.proofs.LawsColumns.{chosen-on}
use Rattle.bank_prog.proofs.laws.chosen_columns_are_on.Goals as goal

pub returns : goal.returns
returns c = chosen-on
