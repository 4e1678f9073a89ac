use Rattle.bank_prog.proofs.LawsCost.{weights-of-one}
use Rattle.bank_prog.proofs.laws.no_weights_are_ones.Goals as goal

pub returns : goal.returns
returns c = weights-of-one
