use Rattle.std.proofs.Common.{◌≡◌, ◌++◌, map, drop}
use Rattle.nv_ast.specs.ProgramView.{decl_tree}
use Rattle.nv_meaning_values.specs.Declarations.{groups_from}
use Rattle.nv_meaning_values.proofs.grouping.groups.Given as goal

abbrev pub invariant-loop-decl : goal.invariant-loop-decl
invariant-loop-decl l = l.groups.items ++ groups_from l.next (map decl_tree (drop l.decl-index l.decls)) ≡ groups_from 0 (map decl_tree l.decls)
