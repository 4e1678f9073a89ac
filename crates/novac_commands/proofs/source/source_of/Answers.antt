use Rattle.novac_commands.proofs.OneSource.{pass-front}
use Rattle.novac_commands.proofs.source.source_of.Goals as goal

pub returns-in-Err-clause-refused : goal.returns-in-Err-clause-refused
returns-in-Err-clause-refused c = pass-front c.args.bytes.now c.in-Err.error c.refusal_of.result c.in-Err.ensures.refused c.refusal_of.ensures
