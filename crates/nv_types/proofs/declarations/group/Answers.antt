use Rattle.std.proofs.Common.{map}
use Rattle.std.proofs.lemmas.Result.{err_from_is_err_and}
use Rattle.nv_ast.specs.ProgramView.{fun_tree}
use Rattle.nv_types_scopes.proofs.DeclWalk.{group_names_err, group_texts_err, group_bodies_err, group_ok}
use Rattle.nv_types.proofs.declarations.group.Goals as goal

pub returns-in_err-group_names : goal.returns-in_err-group_names
returns-in_err-group_names c =
    let p = err_from_is_err_and c.from_residual.result c.from_residual.ensures.1 in
    rw (p.1, p.2) (group_names_err c.args.checker.now c.args.checker.now (map fun_tree c.args.fs.now) c.in_err-group_names.field-0.0 c.in_err-group_names.ensures)

pub returns-in_err-signatures : goal.returns-in_err-signatures
returns-in_err-signatures c =
    let p = err_from_is_err_and c.from_residual-in_err-signatures.result c.from_residual-in_err-signatures.ensures.1 in
    rw (p.1, p.2) (group_texts_err c.args.checker.now c.signatures.new.checker c.signatures.new.checker (map fun_tree c.args.fs.now) c.in_err-signatures.field-0.0 c.in_ok-group_names.ensures c.in_err-signatures.ensures)

pub returns-in_err-whole : goal.returns-in_err-whole
returns-in_err-whole c =
    let p = err_from_is_err_and c.from_residual-in_err-whole.result c.from_residual-in_err-whole.ensures.1 in
    rw (p.1, p.2) (group_bodies_err c.args.checker.now c.signatures.new.checker c.bodies.new.checker c.bodies.new.checker (map fun_tree c.args.fs.now) _ c.in_err-whole.field-0.0 c.in_ok-group_names.ensures c.in_ok-signatures.ensures c.in_err-whole.ensures)

pub returns : goal.returns
returns c =
    group_ok c.args.checker.now c.signatures.new.checker c.bodies.new.checker c.add_costs.new.self (map fun_tree c.args.fs.now) _ c.in_ok-whole.whole _ tt c.in_ok-group_names.ensures c.in_ok-signatures.ensures c.in_ok-whole.ensures c.in_ok-add_costs.ensures
