use Rattle.std.proofs.Common.{◌≡◌, ◌∙◌, [], Bool, sym, subst}
use Rattle.std.proofs.lemmas.Result.{err_from_is_err_and}
use Rattle.nv_ast.specs.Faults.{at_span}
use Rattle.nv_ast.specs.Tests.{where_true}
use Rattle.nv_ast.specs.Types.{record_forms}
use Rattle.nv_types_table.specs.inner.Faulty.{IsFirstOf}
use Rattle.nv_types_scopes.proofs.Shaping.{unfit_test, fits_so}
use Rattle.nv_types_scopes.proofs.LayoutWalk.{where_none}
use Rattle.nv_types_scopes.proofs.functions.Checker.fitting.Goals as goal

pub returns-in_err-fault_where-clause-judged : goal.returns-in_err-fault_where-clause-judged
returns-in_err-fault_where-clause-judged c = λ o h.
    let p = err_from_is_err_and c.from_residual.result c.from_residual.ensures.1 in
    let test = c.is_unfit.ensures ∙ unfit_test c.args.self.now.table c.args.shape o c.is_empty-empty.result h (c.is_empty-empty.ensures.forms (record_forms o) h.of_forms) in
    rw (p.1, p.2) (subst (λ (b : Bool). IsFirstOf (at_span c.args.span (where_true b 7)) c.in_err-fault_where.field-0.0) test c.in_err-fault_where.ensures)

pub returns-clause-judged : goal.returns-clause-judged
returns-clause-judged c = λ o h.
    let test = c.is_unfit.ensures ∙ unfit_test c.args.self.now.table c.args.shape o c.is_empty-empty.result h (c.is_empty-empty.ensures.forms (record_forms o) h.of_forms) in
    subst (λ (b : Bool). at_span c.args.span (where_true b 7) ≡ []) test c.in_ok-fault_where.ensures

pub returns-clause-fits : goal.returns-clause-fits
returns-clause-fits c = λ o h. fits_so c.args.self.now.table c.args.shape o c.is_empty-empty.result h (sym c.is_unfit.ensures ∙ where_none c.args.span c.is_unfit.result 7 c.in_ok-fault_where.ensures)
