use Rattle.novac_commands.proofs.CompileResults.{found-savable}
use Rattle.novac_commands.proofs.compile.compile_under.Goals as goal

pub outcome_made-requires-clause-found : goal.outcome_made-requires-clause-found
outcome_made-requires-clause-found c =
    found-savable c.args.bytes.now c.args.options.slots c.args.w.now c.args.options.budget c.args.options.store c.in_ok-found.found c.requires.options.store c.in_ok-found.ensures.found

pub returns-clause-made : goal.returns-clause-made
returns-clause-made c = c.in_ok-outcome_made.ensures.made c.args.options.slots c.args.w.now c.args.options.store c.in_ok-found.ensures.found
