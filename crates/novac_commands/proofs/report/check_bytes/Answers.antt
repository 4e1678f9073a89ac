use Rattle.std.proofs.Common.{refl}
use Rattle.std.proofs.lemmas.Result.{err_from_is_err_and}
use Rattle.novac_commands.proofs.OneReport.{pass-truth}
use Rattle.novac_commands.proofs.report.check_bytes.Goals as goal

pub returns-in_err-check_truth-clause-refused : goal.returns-in_err-check_truth-clause-refused
returns-in_err-check_truth-clause-refused c =
    let p = err_from_is_err_and c.from_residual-in_err-check_truth.result c.from_residual-in_err-check_truth.ensures.1 in
    rw (p.1, p.2) (pass-truth c.args.bytes.now c.in_ok-report.report _ c.in_ok-report.ensures.report c.in_err-check_truth.ensures.refused)

pub returns-clause-ended : goal.returns-clause-ended
returns-clause-ended c = record {
  r = c.in_ok-report.report;
  is_of = c.in_ok-report.ensures.report;
  is_true = c.in_ok-check_truth.ensures.is_true;
  shown = c.in_ok-check_truth.ensures.shown;
  done = refl;
  line = c.in_ok-text.ensures;
}
