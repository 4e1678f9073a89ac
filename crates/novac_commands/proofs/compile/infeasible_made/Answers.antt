use Rattle.zo_cert.specs.Contents.{report_contents}
use Rattle.zo_cert.specs.ReportText.{report_text}
use Rattle.novac_commands.proofs.CompileResults.{infeasible-found}
use Rattle.novac_commands.proofs.compile.infeasible_made.Goals as goal

pub returns-clause-made : goal.returns-clause-made
returns-clause-made c = λ text object_name slots ws budget store h.
    infeasible-found text object_name c.args.name.now (report_text (report_contents c.args.without.now)) c.in_ok-text.text.items slots ws budget store c.args.without.now c.report_made.result
    h c.report_made.ensures.report (cc (c.in_ok-text.ensures)) c.report_made.ensures.status c.report_made.ensures.text c.report_made.ensures.saves
