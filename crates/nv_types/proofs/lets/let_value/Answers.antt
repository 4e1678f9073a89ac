use Rattle.std.proofs.Common.{◌∙◌, ap, sym, subst, false, ℕ, Result, Some}
use Rattle.nv_types_table.specs.declared.error.TypeError.{TypeError}
use Rattle.nv_types_table.specs.declared.needs.Step.{Step}
use Rattle.nv_types_scopes.specs.declared.functions.TypedExpr.{TypedExpr}
use Rattle.nv_types_scopes.specs.declared.expected.Expected.TheVariants.{Value}
use Rattle.nv_types_scopes.specs.inner.Walk.{Checks}
use Rattle.nv_types_scopes.proofs.BlockStatements.{as_many_names, statement_at_err, let_fails_at_value, let_fails_at_pattern, let_checks}
use Rattle.nv_types.proofs.lets.let_value.Goals as goal

pub returns-in_err-part : goal.returns-in_err-part
returns-in_err-part c = λ k e h at.
    let value = subst (λ (r : Result TypedExpr TypeError). Checks k c.args.checker.now false Value e r) c.in_err-part.was h in
    statement_at_err _ _ _ _ _ c.from_residual.ensures.1 (let_fails_at_value _ _ _ _ _ _ _ value)

pub returns-in_err-let_pattern : goal.returns-in_err-let_pattern
returns-in_err-let_pattern c = λ k e h at.
    let value = subst (λ (r : Result TypedExpr TypeError). Checks k c.args.checker.now false Value e r) c.in_ok-part.was h in
    statement_at_err _ _ _ _ _ c.from_residual-in_err-let_pattern.ensures.1 (let_fails_at_pattern _ _ _ _ _ _ _ _ _ value c.in_err-let_pattern.ensures)

pub returns : goal.returns
returns c = λ k e h at.
    let part = c.in_ok-part.part in
    let value = subst (λ (r : Result TypedExpr TypeError). Checks k c.args.checker.now false Value e r) c.in_ok-part.was h in
    let made : ℕ → Step = λ n. record { before = c.args.before; need = n; pattern = Some c.args.p; words = part.cost.words } in
    let_checks _ _ _ _ c.args.p _ part _ _ _ _ value c.in_ok-let_pattern.ensures (at ∙ sym (as_many_names k.written.items)) (ap made c.saturating_add.ensures) c.saturating_add-2.ensures
