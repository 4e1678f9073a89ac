use Rattle.std.proofs.Common.{[], ◌∷◌}
use Rattle.novac_commands.proofs.Weighed.{weighed-made, weighed-refused}
use Rattle.novac_commands.proofs.compile.compile_weighed.Goals as goal

pub returns-clause-made : goal.returns-clause-made
returns-clause-made c =
    weighed-made c.args.bytes.now (c.args.weights.now ∷ []) c.args.object.now c.args.report.now c.args.options.slots _ c.args.options.budget c.args.options.store c.compile_under.result c.in_ok-w.ensures.weighed c.compile_under.ensures.made

pub returns-clause-refused : goal.returns-clause-refused
returns-clause-refused c =
    weighed-refused c.args.bytes.now (c.args.weights.now ∷ []) c.args.options.slots _ c.args.options.budget c.args.options.store c.compile_under.result c.in_ok-w.ensures.weighed c.compile_under.ensures.refused
