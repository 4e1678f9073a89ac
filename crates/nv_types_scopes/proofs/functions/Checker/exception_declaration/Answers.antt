use Rattle.std.proofs.Common.{◌≡◌, ◌∙◌, [], ap, subst, is_some}
use Rattle.std.proofs.lemmas.Result.{err_from_is_err_and}
use Rattle.nv_ast.specs.TypeView.{list_types}
use Rattle.nv_ast.specs.Tests.{where_true, look_up}
use Rattle.nv_ast.specs.Faults.{at_span}
use Rattle.nv_types_table.specs.inner.Faulty.{IsFirstOf}
use Rattle.nv_types_scopes.proofs.DeclWalk.{exception_err, exception_types_err, exception_wide_err, exception_ok}
use Rattle.nv_types_scopes.proofs.functions.Checker.exception_declaration.Goals as goal

pub returns-in_err-fault_where : goal.returns-in_err-fault_where
returns-in_err-fault_where c =
    let e = c.in_err-fault_where.field-0.0 in
    let found : c.is_some.result ≡ is_some (look_up c.args.name.now c.args.self.now.exceptions) = c.is_some.ensures ∙ ap is_some c.get.ensures in
    let p = err_from_is_err_and c.from_residual.result c.from_residual.ensures.1 in
    rw (p.1, p.2) (exception_err c.args.self.now c.args.self.now c.args.name.now (list_types c.args.ts.now) c.args.span e (subst (λ b. IsFirstOf (at_span c.args.span (where_true b 2)) e) found c.in_err-fault_where.ensures))

pub returns-in_err-types : goal.returns-in_err-types
returns-in_err-types c =
    let e = c.in_err-types.field-0.0 in
    let found : c.is_some.result ≡ is_some (look_up c.args.name.now c.args.self.now.exceptions) = c.is_some.ensures ∙ ap is_some c.get.ensures in
    let none = subst (λ b. at_span c.args.span (where_true b 2) ≡ []) found c.in_ok-fault_where.ensures in
    let p = err_from_is_err_and c.from_residual-in_err-types.result c.from_residual-in_err-types.ensures.1 in
    rw (p.1, p.2) (exception_types_err c.args.self.now c.type_texts.new.self c.type_texts.new.self c.args.name.now (list_types c.args.ts.now) c.args.span e none c.in_err-types.ensures)

pub returns-in_err-fault_where-2 : goal.returns-in_err-fault_where-2
returns-in_err-fault_where-2 c =
    let e = c.in_err-fault_where-2.field-0.0 in
    let found : c.is_some.result ≡ is_some (look_up c.args.name.now c.args.self.now.exceptions) = c.is_some.ensures ∙ ap is_some c.get.ensures in
    let none = subst (λ b. at_span c.args.span (where_true b 2) ≡ []) found c.in_ok-fault_where.ensures in
    let p = err_from_is_err_and c.from_residual-in_err-fault_where-2.result c.from_residual-in_err-fault_where-2.ensures.1 in
    rw (p.1, p.2) (exception_wide_err c.args.self.now c.type_texts.new.self c.type_texts.new.self c.args.name.now (list_types c.args.ts.now) c.args.span c.in_ok-types.types c.known.result e none c.in_ok-types.ensures c.known.ensures.of_parts c.in_err-fault_where-2.ensures)

pub returns : goal.returns
returns c =
    let found : c.is_some.result ≡ is_some (look_up c.args.name.now c.args.self.now.exceptions) = c.is_some.ensures ∙ ap is_some c.get.ensures in
    let none = subst (λ b. at_span c.args.span (where_true b 2) ≡ []) found c.in_ok-fault_where.ensures in
    exception_ok c.args.self.now c.type_texts.new.self c.args.name.now (list_types c.args.ts.now) c.args.span c.in_ok-types.types c.known.result c.add.new.self tt none c.in_ok-types.ensures c.known.ensures.of_parts c.in_ok-fault_where-2.ensures c.in_ok-add.ensures.new_name
