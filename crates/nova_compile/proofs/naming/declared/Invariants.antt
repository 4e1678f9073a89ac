use Rattle.std.proofs.Common.{◌≡◌, ◌++◌, map, drop}
use Rattle.nv_ast.specs.ProgramView.{decl_tree}
use Rattle.nv_lines.specs.LineColumn.{line_at}
use Rattle.nova_compile.specs.Naming.{exceptions_in}
use Rattle.nova_compile.proofs.naming.declared.Given as goal

abbrev pub invariant-loop-decl : goal.invariant-loop-decl
invariant-loop-decl l =
    (l.list.items ++ exceptions_in l.text (map decl_tree (drop l.decl-index l.decls)) ≡ exceptions_in l.text (map decl_tree l.decls))
    × (l.last.line ≡ line_at l.text l.last.place)
