use Rattle.std.proofs.Common.{◌≡◌, [], Bool, subst}
use Rattle.std.proofs.lemmas.Result.{err_from_is_err_and}
use Rattle.nv_ast.specs.Faults.{at_span}
use Rattle.nv_ast.specs.Tests.{where_true}
use Rattle.nv_types_table.specs.inner.Faulty.{IsFirstOf}
use Rattle.nv_types_scopes.proofs.functions.Checker.without_excess.Goals as goal

pub returns-in_err-fault_where-clause-judged : goal.returns-in_err-fault_where-clause-judged
returns-in_err-fault_where-clause-judged c = λ u h.
    let p = err_from_is_err_and c.from_residual.result c.from_residual.ensures.1 in
    rw (p.1, p.2) (subst (λ (b : Bool). IsFirstOf (at_span c.args.span (where_true b 24)) c.in_err-fault_where.field-0.0) (c.is_too_large.ensures u h) c.in_err-fault_where.ensures)

pub returns-clause-judged : goal.returns-clause-judged
returns-clause-judged c = λ u h. subst (λ (b : Bool). at_span c.args.span (where_true b 24) ≡ []) (c.is_too_large.ensures u h) c.in_ok-fault_where.ensures
