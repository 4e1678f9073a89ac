use Rattle.novac_commands.proofs.CompileResults.{two-files, told-by}
use Rattle.novac_commands.proofs.compile.both_made.Goals as goal

pub returns-clause-saves : goal.returns-clause-saves
returns-clause-saves c = two-files _ _ _ _ c.in_ok-first.ensures.file c.in_ok-second.ensures.file

pub returns-clause-text : goal.returns-clause-text
returns-clause-text c = told-by _ _ _ _ c.in_ok-text.text.items c.in_ok-text.ensures (cc)
