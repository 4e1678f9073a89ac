use Rattle.std.proofs.Common.{◌∙◌, ap, sym, subst, map, List}
use Rattle.nv_ast.specs.declared.tree.Fun.{Fun}
use Rattle.nv_ast.specs.declared.tree.TyText.{TyText}
use Rattle.nv_ast.specs.Tree.{DeclTree, ExceptionDecl, GroupDecl}
use Rattle.nv_ast.specs.TypeView.{list_types}
use Rattle.nv_ast.specs.ProgramView.{fun_tree, decl_tree}
use Rattle.nv_types_scopes.specs.inner.Declarations.{ChecksDecl}
use Rattle.nv_types.proofs.declarations.declaration.Goals as goal

pub returns-in-Layout : goal.returns-in-Layout
returns-in-Layout c =
    subst (λ (d : DeclTree). ChecksDecl c.args.checker.now c.layout_declaration.new.self d c.layout_declaration.result) (sym (ap decl_tree c.in-Layout.is)) c.layout_declaration.ensures

pub returns-in-Exception : goal.returns-in-Exception
returns-in-Exception c =
    subst (λ (d : DeclTree). ChecksDecl c.args.checker.now c.exception_declaration.new.self d c.exception_declaration.result)
    (ap (λ (l : List TyText). ExceptionDecl c.in-Exception.x (list_types l) c.in-Exception.span) c.deref.ensures.value ∙ sym (ap decl_tree c.in-Exception.is)) c.exception_declaration.ensures

pub returns-in-Group : goal.returns-in-Group
returns-in-Group c =
    subst (λ (d : DeclTree). ChecksDecl c.args.checker.now c.group.new.checker d c.group.result)
    (ap (λ (l : List Fun). GroupDecl (map fun_tree l)) c.deref-in-Group.ensures.value ∙ sym (ap decl_tree c.in-Group.is)) c.group.ensures
