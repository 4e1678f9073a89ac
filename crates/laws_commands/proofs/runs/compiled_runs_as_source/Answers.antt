use Rattle.laws_commands.proofs.RunsProved.{compiled_runs}
use Rattle.laws_commands.proofs.runs.compiled_runs_as_source.Goals as goal

pub returns : goal.returns
returns c = compiled_runs
