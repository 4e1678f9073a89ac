use Rattle.novac_commands.proofs.OneReport.{true-shown}
use Rattle.novac_commands.proofs.report.check_truth.Goals as goal

pub returns-then-check_report-clause-shown : goal.returns-then-check_report-clause-shown
returns-then-check_report-clause-shown c =
    true-shown c.args.report.now.verdict c.args.report.now
    (c.check_report.ensures.feasible c.if-check_report.true) (c.check_report.ensures.optimal c.if-check_report.true) (c.check_report.ensures.infeasible c.if-check_report.true)
