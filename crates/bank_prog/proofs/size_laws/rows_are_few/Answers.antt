use Rattle.bank_prog.proofs.FewRows.{rows_few}
use Rattle.bank_prog.proofs.size_laws.rows_are_few.Goals as goal

pub returns : goal.returns
returns c = rows_few
