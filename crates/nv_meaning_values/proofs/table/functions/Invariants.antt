use Rattle.std.proofs.Common.{◌≡◌, map, take}
use Rattle.nv_ast.specs.ProgramView.{fun_tree, decl_tree}
use Rattle.nv_meaning_values.specs.inner.Tables.{functions_in}
use Rattle.nv_meaning_values.proofs.table.functions.Given as goal

abbrev pub invariant-loop-decl : goal.invariant-loop-decl
invariant-loop-decl l = map (λ f. fun_tree f.now) l.functions.items ≡ functions_in (map decl_tree (take l.decl-index l.decls))
