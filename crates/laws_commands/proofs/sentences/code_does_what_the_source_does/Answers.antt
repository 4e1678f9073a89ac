use Rattle.laws_commands.proofs.SentencesProved.{says_agreement}
use Rattle.laws_commands.proofs.sentences.code_does_what_the_source_does.Goals as goal

pub returns : goal.returns
returns c = says_agreement
