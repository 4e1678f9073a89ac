use Rattle.std.proofs.Common.{◌≡◌, map, take, drop}
use Rattle.nv_ast.specs.ProgramView.{fun_tree}
use Rattle.nv_types_scopes.proofs.Groups.{SignedSo}
use Rattle.nv_types.proofs.declarations.signatures.Given as goal

abbrev pub invariant-loop-f : goal.invariant-loop-f
invariant-loop-f l = record {
  so : SignedSo l.initial.checker l.checker (map fun_tree l.fs) (map fun_tree (take l.f-index l.fs)) (map fun_tree (drop l.f-index l.fs));
  same_costs : l.checker.costs ≡ l.initial.checker.costs;
  same_scope : l.checker.scope ≡ l.initial.checker.scope;
}
