use Rattle.std.proofs.Common.{map, subst}
use Rattle.std.specs.List.{All}
use Rattle.zo_cert_tree.specs.Node.{node_contents, IsNodeText}
use Rattle.zo_cert.proofs.ReportWhole.{report_fits}
use Rattle.zo_cert.proofs.report_text.print_report.Goals as goal

pub returns-clause-report : goal.returns-clause-report
returns-clause-report c = report_fits c.args.r.now c.requires (subst (λ ns. All IsNodeText (map node_contents ns)) c.deref.ensures.value c.nodes_fit.ensures)

pub returns-in_err-report_bytes-clause-report : goal.returns-in_err-report_bytes-clause-report
returns-in_err-report_bytes-clause-report c = report_fits c.args.r.now c.requires (subst (λ ns. All IsNodeText (map node_contents ns)) c.deref.ensures.value c.nodes_fit.ensures)
