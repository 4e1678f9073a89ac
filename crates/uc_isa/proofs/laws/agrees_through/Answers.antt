use Rattle.uc_isa.proofs.Through.{agrees-through}
use Rattle.uc_isa.proofs.laws.agrees_through.Goals as goal

pub returns : goal.returns
returns c = λ params params' first second code kept follows h. agrees-through params params' first second code kept follows h
