use Rattle.bank_prog.proofs.FewColumns.{columns_few}
use Rattle.bank_prog.proofs.size_laws.columns_are_few.Goals as goal

pub returns : goal.returns
returns c = columns_few
