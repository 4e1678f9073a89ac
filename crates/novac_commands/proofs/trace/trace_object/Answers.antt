use Rattle.nv_ast.specs.TypedView.{typed_program}
use Rattle.novac_commands.proofs.Traced.{traced-by, refused-by}
use Rattle.novac_commands.proofs.trace.trace_object.Goals as goal

pub returns-clause-ended : goal.returns-clause-ended
returns-clause-ended c =
    traced-by c.args.source.now c.args.bytes.now c.args.text.now c.args.tracing.steps c.args.tracing.calls c.args.tracing.line (typed_program c.args.program.now) c.in_ok-object.object c.code-code.result.now c.code-code.ensures c.in_ok-object.ensures.object c.in_ok-check_lawful.ensures.lawful c.trace_code.result c.requires.typed c.trace_code.ensures.ended

pub returns-clause-refused : goal.returns-clause-refused
returns-clause-refused c =
    refused-by c.args.source.now c.args.bytes.now c.args.text.now c.args.tracing.steps c.args.tracing.calls c.args.tracing.line (typed_program c.args.program.now) c.in_ok-object.object c.code-code.result.now c.code-code.ensures c.in_ok-object.ensures.object c.in_ok-check_lawful.ensures.lawful c.trace_code.result c.trace_code.ensures.refused
