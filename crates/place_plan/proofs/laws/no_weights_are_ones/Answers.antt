use Rattle.place_plan.proofs.Ones.{weights_of_one}
use Rattle.place_plan.proofs.laws.no_weights_are_ones.Goals as goal

pub returns : goal.returns
returns c = weights_of_one
