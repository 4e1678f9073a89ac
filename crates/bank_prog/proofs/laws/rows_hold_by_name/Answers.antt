use Rattle.bank_prog.proofs.LawsRows.{feasible-by-name}
use Rattle.bank_prog.proofs.laws.rows_hold_by_name.Goals as goal

pub returns : goal.returns
returns c = feasible-by-name
