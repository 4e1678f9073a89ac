use Rattle.std.proofs.Common.{subst, map, List, Ok, Err}
use Rattle.std.proofs.lemmas.Result.{err_from_is_err_and}
use Rattle.nv_ast.specs.declared.tree.Decl.{Decl}
use Rattle.nv_ast.specs.ProgramView.{decl_tree, program_of}
use Rattle.nv_types_scopes.specs.inner.Declarations.{ChecksDecls}
use Rattle.nv_types.proofs.Measured.{measures_fault, measures_main}
use Rattle.nv_types.proofs.program.sizes_of.Goals as goal

pub returns-in_err-declarations : goal.returns-in_err-declarations
returns-in_err-declarations c =
    let e = c.in_err-declarations.field-0.0 in
    let h = subst (λ (ds : List Decl). ChecksDecls c.args.checker.now c.declarations.new.checker (map decl_tree ds) (Err e)) c.deref.ensures.value c.in_err-declarations.ensures in
    let p = err_from_is_err_and c.from_residual.result c.from_residual.ensures.1 in
    rw (p.1, p.2) (measures_fault c.args.checker.now c.declarations.new.checker (program_of c.args.p.now) e h)

pub returns : goal.returns
returns c =
    let h = subst (λ (ds : List Decl). ChecksDecls c.args.checker.now c.declarations.new.checker (map decl_tree ds) (Ok c.in_ok-declarations.field-0)) c.deref.ensures.value c.in_ok-declarations.ensures in
    measures_main c.args.checker.now c.declarations.new.checker (program_of c.args.p.now) _ c.sizes_of_main.result h c.sizes_of_main.ensures
