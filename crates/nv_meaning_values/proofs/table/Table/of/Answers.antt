use Rattle.std.proofs.Common.{◌≡◌, ◌∙◌, ap, map, subst, arith, IfOk}
use Rattle.nv_ast.specs.Exceptions.{exceptions}
use Rattle.nv_ast.specs.ProgramView.{decl_tree, program_of}
use Rattle.nv_meaning_values.specs.inner.TableView.{declared_in}
use Rattle.nv_meaning_values.specs.inner.Tables.{functions_in, layouts_in, exceptions_in}
use Rattle.nv_meaning_values.proofs.NameIndices.{declared-is}
use Rattle.nv_meaning_values.proofs.table.Table.of.Goals as goal

pub placed-requires : goal.placed-requires
placed-requires c =
    let count = c.in_ok-exceptions.ensures.count ∙ ap exceptions c.deref-3.ensures.value in
    omega (arith, count, c.args.program.now.numbered)

pub returns : goal.returns
returns c =
    subst (λ d. IfOk c.placed.result (λ t. declared_in t ≡ d))
    (declared-is (program_of c.args.program.now) _ _ _
    (c.in_ok-layouts.ensures ∙ ap (λ l. layouts_in (map decl_tree l)) c.deref-2.ensures.value)
    (c.in_ok-exceptions.ensures.names ∙ ap (λ l. exceptions_in (map decl_tree l)) c.deref-3.ensures.value)
    (c.in_ok-functions.ensures ∙ ap (λ l. functions_in (map decl_tree l)) c.deref.ensures.value))
    c.placed.ensures
