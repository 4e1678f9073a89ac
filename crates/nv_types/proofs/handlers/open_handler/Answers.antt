use Rattle.std.proofs.Common.{subst, refl, false, Result}
use Rattle.std.proofs.lemmas.Result.{err_from_is_err_and}
use Rattle.nv_types_table.specs.declared.error.TypeError.{TypeError}
use Rattle.nv_types_scopes.specs.declared.functions.TypedExpr.{TypedExpr}
use Rattle.nv_types_scopes.specs.declared.expected.Expected.TheVariants.{Anything}
use Rattle.nv_types_scopes.specs.inner.Walk.{Checks}
use Rattle.nv_types_scopes.proofs.BlockHandlers.{try_fails_at_body, try_fails_at_patterns}
use Rattle.nv_types.proofs.handlers.open_handler.Goals as goal

pub returns-in_err-tried-clause-first : goal.returns-in_err-tried-clause-first
returns-in_err-tried-clause-first c =
    let p = err_from_is_err_and c.from_residual.result c.from_residual.ensures.1 in
    rw (p.1, p.2) (λ k tail expected a h is.
    let body = subst (λ (r : Result TypedExpr TypeError). Checks k c.args.checker.now false Anything a r) c.in_err-tried.was is in
    try_fails_at_body k c.args.checker.now tail expected c.args.span a _ _ h _ body)

pub returns-in_err-types-clause-first : goal.returns-in_err-types-clause-first
returns-in_err-types-clause-first c =
    let p = err_from_is_err_and c.from_residual-in_err-types.result c.from_residual-in_err-types.ensures.1 in
    rw (p.1, p.2) (λ k tail expected a h is.
    let body = subst (λ (r : Result TypedExpr TypeError). Checks k c.args.checker.now false Anything a r) c.in_ok-tried.was is in
    try_fails_at_patterns k c.args.checker.now _ _ tail expected c.args.span a _ _ h _ _ body c.in_err-types.ensures)

pub returns-clause-tried : goal.returns-clause-tried
returns-clause-tried c = c.in_ok-tried.was

pub returns-clause-handler : goal.returns-clause-handler
returns-clause-handler c = refl

pub returns-clause-bound : goal.returns-clause-bound
returns-clause-bound c = c.in_ok-types.ensures

pub returns-clause-expected : goal.returns-clause-expected
returns-clause-expected c = c.same_as.ensures

pub returns-in_err-tried-clause-tried : goal.returns-in_err-tried-clause-tried
returns-in_err-tried-clause-tried c =
    let p = err_from_is_err_and c.from_residual.result c.from_residual.ensures.1 in
    rw p.1 tt

pub returns-in_err-tried-clause-handler : goal.returns-in_err-tried-clause-handler
returns-in_err-tried-clause-handler c =
    let p = err_from_is_err_and c.from_residual.result c.from_residual.ensures.1 in
    rw p.1 tt

pub returns-in_err-tried-clause-bound : goal.returns-in_err-tried-clause-bound
returns-in_err-tried-clause-bound c =
    let p = err_from_is_err_and c.from_residual.result c.from_residual.ensures.1 in
    rw p.1 tt

pub returns-in_err-tried-clause-expected : goal.returns-in_err-tried-clause-expected
returns-in_err-tried-clause-expected c =
    let p = err_from_is_err_and c.from_residual.result c.from_residual.ensures.1 in
    rw p.1 tt

pub returns-in_err-types-clause-tried : goal.returns-in_err-types-clause-tried
returns-in_err-types-clause-tried c =
    let p = err_from_is_err_and c.from_residual-in_err-types.result c.from_residual-in_err-types.ensures.1 in
    rw p.1 tt

pub returns-in_err-types-clause-handler : goal.returns-in_err-types-clause-handler
returns-in_err-types-clause-handler c =
    let p = err_from_is_err_and c.from_residual-in_err-types.result c.from_residual-in_err-types.ensures.1 in
    rw p.1 tt

pub returns-in_err-types-clause-bound : goal.returns-in_err-types-clause-bound
returns-in_err-types-clause-bound c =
    let p = err_from_is_err_and c.from_residual-in_err-types.result c.from_residual-in_err-types.ensures.1 in
    rw p.1 tt

pub returns-in_err-types-clause-expected : goal.returns-in_err-types-clause-expected
returns-in_err-types-clause-expected c =
    let p = err_from_is_err_and c.from_residual-in_err-types.result c.from_residual-in_err-types.ensures.1 in
    rw p.1 tt

pub returns-clause-first : goal.returns-clause-first
returns-clause-first c = tt
