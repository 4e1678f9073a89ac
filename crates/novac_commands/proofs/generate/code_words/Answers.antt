use Rattle.nv_ast.specs.TypedView.{typed_program}
use Rattle.novac_commands.proofs.Generated.{code-ends}
use Rattle.novac_commands.proofs.generate.code_words.Goals as goal

pub returns-in-Ended : goal.returns-in-Ended
returns-in-Ended c =
    code-ends (typed_program c.args.t.now.typed) c.args.t.now.built.code c.start-engine.result c.in_ok-packet.packet 100000000 c.simulate.result c.in-Ended.words
    c.requires.word c.requires.code c.size-size.ensures.sizes c.start-engine.ensures c.simulate.ensures.outcome c.in-Ended.is
