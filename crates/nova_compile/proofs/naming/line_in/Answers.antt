use Rattle.nova_compile.proofs.Named.{line-low}
use Rattle.nova_compile.proofs.naming.line_in.Goals as goal

pub returns-clause-low : goal.returns-clause-low
returns-clause-low c = line-low c.args.text.now c.args.place c.line_after.result c.requires.short c.line_after.ensures
