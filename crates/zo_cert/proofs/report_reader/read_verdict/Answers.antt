use Rattle.std.proofs.Common.{◌≢◌, codes, arith, rules}
use Rattle.std.proofs.lemmas.Result.{err_from_is_err_and}
use Rattle.zo_cert.specs.declared.report.Verdict.TheVariants as verdicts
use Rattle.zo_cert.proofs.VerdictStops.{no_verdict_line, no_verdict, costed_fault}
use Rattle.zo_cert.proofs.report_reader.read_verdict.Goals as goal

pub returns-in_err-line-clause-err : goal.returns-in_err-line-clause-err
returns-in_err-line-clause-err c =
    let p = err_from_is_err_and c.from_residual.result c.from_residual.ensures.1 in
    rw (p.1, p.2, c.in_err-line.ensures.none.0) (no_verdict_line _ _ _ _ (omega arith) c.in_err-line.ensures.none.1)

pub returns-in_err-x-clause-err : goal.returns-in_err-x-clause-err
returns-in_err-x-clause-err c =
    let p = err_from_is_err_and c.from_residual-in_err-x.result c.from_residual-in_err-x.ensures.1 in
    rw (p.1, p.2) (costed_fault verdicts.Optimal _ _ _ _ c.in-Some.stated.now _ c.next_line.new.self.number _ tt c.in-Some.ensures c.in_ok-line.ensures.line c.in_ok-line.ensures.one c.in_ok-line.ensures.number c.in_err-x.ensures.err)

pub returns-in_default-strip-clause-err : goal.returns-in_default-strip-clause-err
returns-in_default-strip-clause-err c =
    let no_infeasible : c.in_ok-line.line.now ≢ codes "verdict infeasible" = search rules in
    let no_spent : c.in_ok-line.line.now ≢ codes "verdict spent" = search rules in
    no_verdict _ _ c.in_ok-line.line.now _ _ _ c.in_ok-line.ensures.number c.in_ok-line.ensures.line c.in_ok-line.ensures.one no_infeasible no_spent c.in_default.ensures c.in_default-strip.ensures

pub returns-in_err-x-2-clause-err : goal.returns-in_err-x-2-clause-err
returns-in_err-x-2-clause-err c =
    let p = err_from_is_err_and c.from_residual-in_err-x-2.result c.from_residual-in_err-x-2.ensures.1 in
    rw (p.1, p.2) (costed_fault verdicts.Feasible _ _ _ _ c.in-Some-strip.stated.now _ c.next_line.new.self.number _ tt c.in-Some-strip.ensures c.in_ok-line.ensures.line c.in_ok-line.ensures.one c.in_ok-line.ensures.number c.in_err-x-2.ensures.err)
