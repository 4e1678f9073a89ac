use Rattle.std.proofs.Common.{◌≡◌, ◌∙◌, sym, subst, length, arith, rules}
use Rattle.std.proofs.lemmas.Result.{err_from_is_err_and}
use Rattle.zo_model.specs.inner.LineFault.{IsLineFault}
use Rattle.zo_cert.specs.inner.ReportLine.{IsOnesLine}
use Rattle.zo_cert.specs.inner.ReportPart.{no_number, other_cost}
use Rattle.zo_cert.proofs.VerdictStops.{columns_fault}
use Rattle.zo_cert.proofs.report_reader.read_costed.Goals as goal

pub returns-in_default-clause-err : goal.returns-in_default-clause-err
returns-in_default-clause-err c = no_number (λ k small. c.in_default.ensures.none k (omega (arith, small)))

pub returns-in_err-x-clause-err : goal.returns-in_err-x-clause-err
returns-in_err-x-clause-err c =
    let p = err_from_is_err_and c.from_residual.result c.from_residual.ensures.1 in
    let counted : c.len.result ≡ length c.args.z.now.costs.items = search rules in
    let fault = subst (λ n. IsLineFault (IsOnesLine n) c.args.reader.now.lines c.args.reader.now.number c.in_err-x.field-0.0) counted c.in_err-x.ensures.err in
    rw (p.1, p.2) (columns_fault c.args.z.now.costs.items c.args.stated.now c.args.reader.now.lines c.args.number c.args.reader.now.number c.in-Some.stated _ (omega (arith, c.in-Some.ensures.within)) c.in-Some.ensures.spelled fault)

pub returns-then-cost-stated-clause-err : goal.returns-then-cost-stated-clause-err
returns-then-cost-stated-clause-err c =
    let counted : c.len.result ≡ length c.args.z.now.costs.items = search rules in
    other_cost c.in-Some.stated (omega (arith, c.in-Some.ensures.within)) c.in-Some.ensures.spelled (record {
      on = c.in_ok-x.x.on.items;
      back = c.read_ones.new.reader.lines;
      one_a_column = c.in_ok-x.ensures.count ∙ counted;
      not_its_cost = λ e. c.if-cost-stated.true (c.cost.ensures ∙ sym e);
      spelled = c.in_ok-x.ensures.line;
    })
