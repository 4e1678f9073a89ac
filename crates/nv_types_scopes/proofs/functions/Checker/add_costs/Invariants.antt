use Rattle.std.proofs.Common.{◌≡◌, map, take, drop}
use Rattle.nv_ast.specs.Tests.{names_of}
use Rattle.nv_ast.specs.ProgramView.{fun_tree}
use Rattle.nv_types_scopes.specs.inner.Declarations.{AreNew}
use Rattle.nv_types_scopes.proofs.Groups.{Costed}
use Rattle.nv_types_scopes.proofs.functions.Checker.add_costs.Given as goal

abbrev pub invariant-loop-f : goal.invariant-loop-f
invariant-loop-f l = record {
  so : AreNew (names_of l.initial.self.costs) (map fun_tree l.fs) → Costed l.initial.self l.self l.whole (map fun_tree (take l.f-index l.fs)) (map fun_tree (drop l.f-index l.fs));
  same_table : l.self.table ≡ l.initial.self.table;
  same_layouts : l.self.layouts ≡ l.initial.self.layouts;
  same_exceptions : l.self.exceptions ≡ l.initial.self.exceptions;
  same_functions : l.self.functions ≡ l.initial.self.functions;
  same_scope : l.self.scope ≡ l.initial.self.scope;
}
