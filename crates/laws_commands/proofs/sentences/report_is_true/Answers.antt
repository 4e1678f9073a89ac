use Rattle.laws_commands.proofs.SentencesProved.{says_report}
use Rattle.laws_commands.proofs.sentences.report_is_true.Goals as goal

pub returns : goal.returns
returns c = says_report
