use Rattle.laws_commands.proofs.SentencesProved.{says_moves}
use Rattle.laws_commands.proofs.sentences.moves_cost_no_more.Goals as goal

pub returns : goal.returns
returns c = says_moves
