use Rattle.std.proofs.Common.{refl}
use Rattle.place_ir_checks.proofs.Decided.{fits-from}
use Rattle.place_ir_checks.proofs.laws.small_placements_fit.Goals as goal

pub returns-clause-banks : goal.returns-clause-banks
returns-clause-banks c = fits-from _ _ refl refl

pub returns-clause-slot : goal.returns-clause-slot
returns-clause-slot c = fits-from _ _ refl refl

pub returns-clause-words : goal.returns-clause-words
returns-clause-words c = fits-from _ _ refl refl

pub returns-clause-aside : goal.returns-clause-aside
returns-clause-aside c = fits-from _ _ refl refl
