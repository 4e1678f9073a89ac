use Rattle.uc_isa.proofs.Listing.{stands-left, stands-right, stands-fetched}
use Rattle.uc_isa.proofs.laws.parts_of_code.Goals as goal

pub returns-clause-left : goal.returns-clause-left
returns-clause-left c = λ code at is js s. stands-left code at is js s

pub returns-clause-right : goal.returns-clause-right
returns-clause-right c = λ code at is js s. stands-right code at is js s

pub returns-clause-first : goal.returns-clause-first
returns-clause-first c = λ code at i is s. stands-fetched code at i is s
