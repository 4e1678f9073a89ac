use Rattle.std.proofs.Common.{◌≢◌, rules}
use Rattle.zo_model.proofs.LineLemmas.{no_line_other}
use Rattle.zo_cert.proofs.report_reader.read_exact.Goals as goal

pub returns-then-ne-clause-err : goal.returns-then-ne-clause-err
returns-then-ne-clause-err c =
    let differ : c.in_ok-line.line.now ≢ c.args.text.now = search rules in
    (c.in_ok-line.ensures.number, no_line_other _ _ _ _ c.in_ok-line.ensures.line c.in_ok-line.ensures.one differ)
