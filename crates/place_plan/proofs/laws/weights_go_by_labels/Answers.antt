use Rattle.place_plan.proofs.Labels.{weighted_by_labels}
use Rattle.place_plan.proofs.laws.weights_go_by_labels.Goals as goal

pub returns : goal.returns
returns c = weighted_by_labels
