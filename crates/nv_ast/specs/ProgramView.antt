-- The tree that a whole program stands for.
use Rattle.std.specs.Prelude.{map}
use Rattle.nv_ast.specs.declared.tree.Fun.{Fun}
use Rattle.nv_ast.specs.declared.tree.Decl.{Decl}
use Rattle.nv_ast.specs.declared.tree.Decl.TheVariants.{Layout, Exception, Group}
use Rattle.nv_ast.specs.declared.program.Program.{Program}
use Rattle.nv_ast.specs.LayoutView.{layout_tree}
use Rattle.nv_ast.specs.TypeView.{type_tree, list_types, list_named_types}
use Rattle.nv_ast.specs.ExprView.{tree_of}
use Rattle.nv_ast.specs.Tree.{FunTree, DeclTree, LayoutDecl, ExceptionDecl, GroupDecl, ProgramTree}

-- of a function
abbrev pub fun_tree : Fun → FunTree
fun_tree f = record { name = f.name; params = list_named_types f.params.items; result = type_tree f.result; body = tree_of f.body; span = f.span }

-- of a declaration
abbrev pub decl_tree : Decl → DeclTree
decl_tree (Layout x l s) = LayoutDecl x (layout_tree l) s
decl_tree (Exception x ts s) = ExceptionDecl x (list_types ts.items) s
decl_tree (Group fs) = GroupDecl (map fun_tree fs.items)

-- of a program
abbrev pub program_of : Program → ProgramTree
program_of p = record { decls = map decl_tree p.decls.items; length = p.length }
