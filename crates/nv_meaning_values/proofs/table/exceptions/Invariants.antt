use Rattle.std.proofs.Common.{◌≡◌, length, map, take}
use Rattle.nv_ast.specs.Exceptions.{exceptions}
use Rattle.nv_ast.specs.ProgramView.{decl_tree}
use Rattle.nv_meaning_values.specs.inner.Tables.{exceptions_in}
use Rattle.nv_meaning_values.proofs.table.exceptions.Given as goal

abbrev pub invariant-loop-decl : goal.invariant-loop-decl
invariant-loop-decl l = record {
  names : map (λ x. x.now) l.exceptions.items ≡ exceptions_in (map decl_tree (take l.decl-index l.decls));
  count : length l.exceptions.items ≡ exceptions (take l.decl-index l.decls);
}
