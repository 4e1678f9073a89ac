use Rattle.std.proofs.Common.{map, drop}
use Rattle.nv_ast.specs.Tests.{names_of}
use Rattle.nv_ast.specs.ProgramView.{fun_tree}
use Rattle.nv_types_scopes.proofs.GroupNames.{Seen}
use Rattle.nv_types_scopes.proofs.functions.Checker.add_group_names.Given as goal

abbrev pub invariant-loop-f : goal.invariant-loop-f
invariant-loop-f l = Seen (names_of l.self.functions) l.names.keys (map fun_tree l.fs) (map fun_tree (drop l.f-index l.fs))
