use Rattle.std.proofs.Common.{◌≡◌, map, take}
use Rattle.nv_ast.specs.ProgramView.{decl_tree}
use Rattle.nv_meaning_values.specs.inner.Tables.{layout_pairs, layouts_in}
use Rattle.nv_meaning_values.proofs.table.layouts.Given as goal

abbrev pub invariant-loop-decl : goal.invariant-loop-decl
invariant-loop-decl l = layout_pairs l.layouts.items ≡ layouts_in (map decl_tree (take l.decl-index l.decls))
