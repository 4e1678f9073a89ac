use Rattle.laws_commands.proofs.RunsProved.{counts_run}
use Rattle.laws_commands.proofs.runs.counts_as_source.Goals as goal

pub returns : goal.returns
returns c = counts_run
