use Rattle.place_weights.proofs.Bounds.{weight-bounds}
use Rattle.place_weights.proofs.laws.weights_are_bounded.Goals as goal

pub returns : goal.returns
returns c = weight-bounds
