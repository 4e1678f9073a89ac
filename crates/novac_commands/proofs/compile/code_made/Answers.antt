use Rattle.std.proofs.Common.{subst}
use Rattle.nv_ast.specs.Tree.{ProgramTree}
use Rattle.uc_object.specs.Object.{IsTaggedObject}
use Rattle.zo_cert.specs.Contents.{report_contents}
use Rattle.zo_cert.specs.ReportText.{report_text}
use Rattle.nova_compile.specs.Naming.{source_exceptions}
use Rattle.novac_commands.proofs.CompileResults.{code-found}
use Rattle.novac_commands.proofs.compile.code_made.Goals as goal

pub returns-clause-made : goal.returns-clause-made
returns-clause-made c = λ slots ws budget store h.
    let text = c.args.text.now in
    let built = c.args.t.built in
    let encoded = subst (λ (p : ProgramTree). IsTaggedObject c.in_ok-bytes.bytes.items (record { code = built.code; exceptions = source_exceptions text p; starts = built.starts.items })) c.program.ensures.same c.in_ok-bytes.ensures in
    code-found text c.args.object.now c.args.report.now c.in_ok-bytes.bytes.items (report_text (report_contents built.report)) slots ws budget store _ c.args.t c.both_made-made.result
    h encoded c.both_made-made.ensures.report (cc (c.list.ensures.list)) c.both_made-made.ensures.status c.both_made-made.ensures.saves c.both_made-made.ensures.text
