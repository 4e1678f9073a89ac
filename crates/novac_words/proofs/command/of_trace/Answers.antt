use Rattle.novac_words.proofs.Names.{trace-short}
use Rattle.novac_words.proofs.command.of_trace.Goals as goal

pub returns-in_default-clause-none : goal.returns-in_default-clause-none
returns-in_default-clause-none c = trace-short c.args.source.now c.args.object.now c.args.memory.now c.args.words.now c.in_default.len_below
