use Rattle.place_weights.proofs.Exact.{given_answer, bad_answer}
use Rattle.place_weights.proofs.read.read_weights.Goals as goal

pub returns-clause-given : goal.returns-clause-given
returns-clause-given c = given_answer c.args.bytes.now c.weights_of.result c.weights_of.ensures.gives c.weights_of.ensures.refuses

pub returns-clause-bad : goal.returns-clause-bad
returns-clause-bad c = bad_answer c.args.bytes.now c.weights_of.result c.weights_of.ensures.gives c.weights_of.ensures.refuses
