use Rattle.std.proofs.Common.{◌≡◌, ◌++◌, map, drop}
use Rattle.nv_ast.specs.ProgramView.{decl_tree}
use Rattle.nv_ast.specs.TypeView.{list_types}
use Rattle.nv_flatten_values.specs.inner.Whole.{raised_in}
use Rattle.nv_flatten_values.proofs.source.raised.Given as goal

abbrev pub invariant-loop-decl : goal.invariant-loop-decl
invariant-loop-decl l = map (λ t. list_types t.now.items) l.raised.items ++ raised_in (map decl_tree (drop l.decl-index l.decls)) ≡ raised_in (map decl_tree l.decls)
