use Rattle.std.proofs.Common.{◌≡◌, ◌∙◌, [], ap, subst, is_some}
use Rattle.std.proofs.lemmas.Result.{err_from_is_err_and}
use Rattle.nv_ast.specs.LayoutView.{layout_tree}
use Rattle.nv_ast.specs.Tests.{where_true, look_up}
use Rattle.nv_ast.specs.Faults.{at_span}
use Rattle.nv_types_table.specs.inner.Faulty.{IsFirstOf}
use Rattle.nv_types_scopes.proofs.DeclWalk.{layout_err, layout_shape_err, layout_ok}
use Rattle.nv_types_scopes.proofs.functions.Checker.layout_declaration.Goals as goal

pub returns-in_err-fault_where : goal.returns-in_err-fault_where
returns-in_err-fault_where c =
    let e = c.in_err-fault_where.field-0.0 in
    let found : c.is_some.result ≡ is_some (look_up c.args.name.now c.args.self.now.layouts) = c.is_some.ensures ∙ ap is_some c.get.ensures in
    let p = err_from_is_err_and c.from_residual.result c.from_residual.ensures.1 in
    rw (p.1, p.2) (layout_err c.args.self.now c.args.self.now c.args.name.now (layout_tree c.args.l.now) c.args.span e (subst (λ b. IsFirstOf (at_span c.args.span (where_true b 2)) e) found c.in_err-fault_where.ensures))

pub returns-in_err-shape : goal.returns-in_err-shape
returns-in_err-shape c =
    let e = c.in_err-shape.field-0.0 in
    let found : c.is_some.result ≡ is_some (look_up c.args.name.now c.args.self.now.layouts) = c.is_some.ensures ∙ ap is_some c.get.ensures in
    let none = subst (λ b. at_span c.args.span (where_true b 2) ≡ []) found c.in_ok-fault_where.ensures in
    let p = err_from_is_err_and c.from_residual-in_err-shape.result c.from_residual-in_err-shape.ensures.1 in
    rw (p.1, p.2) (layout_shape_err c.args.self.now c.whole_layout.new.self c.whole_layout.new.self c.args.name.now (layout_tree c.args.l.now) c.args.span e none c.in_err-shape.ensures)

pub returns : goal.returns
returns c =
    let found : c.is_some.result ≡ is_some (look_up c.args.name.now c.args.self.now.layouts) = c.is_some.ensures ∙ ap is_some c.get.ensures in
    let none = subst (λ b. at_span c.args.span (where_true b 2) ≡ []) found c.in_ok-fault_where.ensures in
    layout_ok c.args.self.now c.whole_layout.new.self c.args.name.now (layout_tree c.args.l.now) c.args.span c.in_ok-shape.shape c.add.new.self tt none c.in_ok-shape.ensures c.in_ok-add.ensures.new_name
