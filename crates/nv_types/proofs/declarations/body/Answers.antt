use Rattle.std.proofs.Common.{◌∙◌, ap, sym, ◌+◌, min}
use Rattle.nv_types_table.specs.inner.Cells.{most}
use Rattle.std.proofs.lemmas.Result.{err_from_is_err_and}
use Rattle.nv_ast.specs.ProgramView.{fun_tree}
use Rattle.nv_ast.specs.TypeView.{list_named_types}
use Rattle.nv_ast.specs.Tests.{names_of}
use Rattle.nv_types_scopes.proofs.Params.{names_in_text, listed_names}
use Rattle.nv_types_scopes.proofs.DeclWalk.{body_unknown, body_err, body_ok, body_no_memory}
use Rattle.nv_types.proofs.declarations.body.Goals as goal

pub returns-in_default : goal.returns-in_default
returns-in_default c = body_unknown c.args.checker.now (fun_tree c.args.f.now) _ (sym c.in_default.ensures)

pub returns-in_err-bind_params : goal.returns-in_err-bind_params
returns-in_err-bind_params c =
    let p = err_from_is_err_and c.from_residual.result c.from_residual.ensures.1 in
    rw (p.1, p.2) (body_no_memory c.args.checker.now _ (fun_tree c.args.f.now))

pub returns-in_err-found : goal.returns-in_err-found
returns-in_err-found c =
    let p = err_from_is_err_and c.from_residual-in_err-found.result c.from_residual-in_err-found.ensures.1 in
    rw (p.1, p.2)
    (body_err c.args.checker.now c.bind_params.new.self c.expr.new.checker c.expr.new.checker (fun_tree c.args.f.now) c.in-Some.function c.in_err-found.field-0.0 c.clear.new.self (names_of c.args.f.now.params.items)
    (λ layouts. names_in_text layouts (list_named_types c.args.f.now.params.items) ∙ listed_names c.args.f.now.params.items)
    (record { sees = c.in_ok-bind_params.ensures.sees; keeps = c.in_ok-bind_params.ensures.keeps }) (sym c.in-Some.ensures) c.in_err-found.ensures)

pub returns-in_err-leave : goal.returns-in_err-leave
returns-in_err-leave c =
    let p = err_from_is_err_and c.from_residual-in_err-leave.result c.from_residual-in_err-leave.ensures.1 in
    rw (p.1, p.2) (body_no_memory c.args.checker.now _ (fun_tree c.args.f.now))

pub returns : goal.returns
returns c =
    body_ok c.args.checker.now c.bind_params.new.self c.expr.new.checker (fun_tree c.args.f.now) c.in-Some.function c.in_ok-found.found c.known-words.result c.leave.new.self c.mark-mark.result c.saturating_add-2.result c.saturating_add-3.result c.clear.new.self (names_of c.args.f.now.params.items)
    (λ layouts. names_in_text layouts (list_named_types c.args.f.now.params.items) ∙ listed_names c.args.f.now.params.items)
    (record { sees = c.in_ok-bind_params.ensures.sees; keeps = c.in_ok-bind_params.ensures.keeps }) (sym c.in-Some.ensures) c.in_ok-found.ensures c.mark-mark.ensures c.in_ok-leave.ensures c.known-words.ensures.of_parts
    (c.saturating_add-2.ensures ∙ ap (λ n. min (n + 1) most) c.saturating_add.ensures) c.saturating_add-3.ensures
