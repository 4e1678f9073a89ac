use Rattle.std.proofs.Common.{codes, arith, refl}
use Rattle.std.proofs.lemmas.Result.{err_from_is_err_and}
use Rattle.nv_lines.proofs.SplitLaws.{Lacks-test}
use Rattle.zo_model.specs.declared.error.ZoError.TheVariants.{Bad}
use Rattle.zo_cert.specs.ReportText.{counted_line}
use Rattle.zo_cert.proofs.ReportLines.{three_lines}
use Rattle.zo_cert.proofs.StopLemmas.{name_stop, slots_stop, budget_stop, budget_weaker, IsBudget, zero_line, no_budget}
use Rattle.zo_cert.proofs.report_reader.read_front.Goals as goal

pub returns-in_err-read_exact-clause-err : goal.returns-in_err-read_exact-clause-err
returns-in_err-read_exact-clause-err c =
    let p = err_from_is_err_and c.from_residual.result c.from_residual.ensures.1 in
    rw (p.1, p.2) (name_stop _ _ _ c.in_err-read_exact.ensures.err)

pub returns-in_err-slots-clause-err : goal.returns-in_err-slots-clause-err
returns-in_err-slots-clause-err c =
    let p = err_from_is_err_and c.from_residual-in_err-slots.result c.from_residual-in_err-slots.ensures.1 in
    rw (p.1, p.2) (slots_stop _ _ _ _ _ c.in_ok-read_exact.ensures.line c.in_ok-read_exact.ensures.number c.in_err-slots.ensures.err)

pub returns-in_err-budget-clause-err : goal.returns-in_err-budget-clause-err
returns-in_err-budget-clause-err c =
    let p = err_from_is_err_and c.from_residual-in_err-budget.result c.from_residual-in_err-budget.ensures.1 in
    rw (p.1, p.2) (budget_stop _ _ _ _ c.read_counted.new.reader.number c.in_ok-slots.slots _ c.in_ok-slots.ensures.ok.0 c.in_ok-read_exact.ensures.line c.in_ok-slots.ensures.ok.1 (omega (arith, c.in_ok-read_exact.ensures.number, c.in_ok-slots.ensures.number))
    (budget_weaker _ _ _ c.in_err-budget.ensures.err))

pub returns-then-budget-eq0-clause-err : goal.returns-then-budget-eq0-clause-err
returns-then-budget-eq0-clause-err c =
    budget_stop _ _ _ _ c.read_counted.new.reader.number c.in_ok-slots.slots (Bad c.read_counted-2.new.reader.number) c.in_ok-slots.ensures.ok.0 c.in_ok-read_exact.ensures.line c.in_ok-slots.ensures.ok.1 (omega (arith, c.in_ok-read_exact.ensures.number, c.in_ok-slots.ensures.number))
    (c.in_ok-budget.ensures.number, zero_line IsBudget (codes "budget") c.read_counted.new.reader.lines c.read_counted-2.new.reader.lines c.in_ok-budget.budget (Lacks-test 10 (codes "budget") refl) c.if-budget-eq0.true c.in_ok-budget.ensures.ok.1 no_budget)

pub returns-clause-lines : goal.returns-clause-lines
returns-clause-lines c =
    three_lines _ _ _ _ (codes "novareport 1") (counted_line (codes "slots") c.in_ok-slots.slots) (counted_line (codes "budget") c.in_ok-budget.budget) c.in_ok-read_exact.ensures.line c.in_ok-slots.ensures.ok.1 c.in_ok-budget.ensures.ok.1
