use Rattle.std.proofs.Common.{◌≡◌, ◌++◌, take}
use Rattle.nv_ast.specs.PatternView.{list_patterns}
use Rattle.nv_ast.specs.Scope.{names_in_all}
use Rattle.nv_types_table.specs.inner.Named.{plain_names}
use Rattle.nv_types_table.proofs.names.+names.Given as goal

abbrev pub invariant-add_all_names-loop-p : goal.invariant-add_all_names-loop-p
invariant-add_all_names-loop-p l = plain_names l.names.items ≡ plain_names l.fn.names.items ++ names_in_all (list_patterns (take l.p-index l.ps))
